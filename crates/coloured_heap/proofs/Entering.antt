-- A journal that is taken entry by entry, act by act.
use Rattle.std.proofs.Common.{◌≡◌, ℕ, ◌+◌, suc, ◌<◌, Bool, true, false, List, [], ◌∷◌, drop, length, slice_index_or, Option, Some, None, refl, ap, sym, subst, ◌∙◌, arith}
use Rattle.std.specs.Prelude.{cond, if◌then◌else◌, option_map}
use Rattle.std.proofs.lemmas.List.{drop_more}
use Rattle.fr_base.specs.Names.{same_object}
use Rattle.fr_base.specs.declared.label.Label.{Label}
use Rattle.fr_base.specs.declared.label.Label.TheVariants as label
use Rattle.fr_base.specs.declared.label.Plain.{Plain}
use Rattle.fr_base.specs.declared.name.ObjNo.{ObjNo}
use Rattle.fr_base.specs.declared.settings.Options.{Options}
use Rattle.indexmap.specs.IndexMap.{get}
use Rattle.journal.specs.declared.act.Act.{Act}
use Rattle.journal.specs.View.{EntryView}
use Rattle.coloured_heap.specs.Heap.{Coloured, Running}
use Rattle.coloured_heap.specs.Rules.{allows}
use Rattle.coloured_heap.specs.Changes.{after_act, stored, with_new_mutex, with_value}
use Rattle.coloured_heap.specs.Legal.{acts_after, entry_after, is_new_name, is_placed, settled, with_mutex, otherwise, illegal_from}
use Rattle.coloured_heap.specs.Tables.{object_key, same_object_key, seen, stand_of, Shows, Leads}
use Rattle.coloured_heap.specs.declared.keys.Wish.{Wish}
use Rattle.coloured_heap.specs.declared.tables.Stand.{Stand}
use Rattle.coloured_heap.specs.declared.tables.Tables.{Tables}
use Rattle.coloured_heap.proofs.Times.{object_is}
use Rattle.coloured_heap.proofs.Shown.{shown_unseen}
use Rattle.coloured_heap.proofs.ShownNames.{object_flip}

-- STORES

-- the value of an object isn't seen
value_shown : (eq : Wish → Wish → Bool) (t : Tables) (p : ObjNo) (v : Plain) (s : Coloured) → Shows eq t s → Shows eq t (with_value s p v)
value_shown eq t p v s h = record {
  objects = shown_unseen (λ y. y.object) same_object object_is object_flip seen (λ q. get same_object_key t.objects (object_key q)) p (λ x. record x { value = v }) s.living (λ x. refl) (λ x. refl) h.objects;
  cached = h.cached;
  served = h.served;
  issued = h.issued;
  threads = h.threads;
  wishes = h.wishes;
  mutexes = h.mutexes;
}

pub stores_shown : (eq : Wish → Wish → Bool) (t : Tables) (ls : List Label) (s : Coloured) → Shows eq t s → Shows eq t (stored ls s)
stores_shown eq t [] s h = h
stores_shown eq t (label.Make p v ∷ ls) s h = stores_shown eq t ls s h
stores_shown eq t (label.Load p v ∷ ls) s h = stores_shown eq t ls s h
stores_shown eq t (label.Store p v ∷ ls) s h = stores_shown eq t ls (with_value s p v) (value_shown eq t p v s h)
stores_shown eq t (label.Drop p ∷ ls) s h = stores_shown eq t ls s h
stores_shown eq t (label.Print n ∷ ls) s h = stores_shown eq t ls s h
stores_shown eq t (label.Lock m ∷ ls) s h = stores_shown eq t ls s h
stores_shown eq t (label.Unlock m ∷ ls) s h = stores_shown eq t ls s h
stores_shown eq t (label.Start u ∷ ls) s h = stores_shown eq t ls s h
stores_shown eq t (label.End u ∷ ls) s h = stores_shown eq t ls s h

-- WHERE IT LEADS

-- the state that the tables show next
abbrev pub Next : (Wish → Wish → Bool) → Tables → Option Coloured → Type 0
Next eq t r = (x : Coloured) × (r ≡ Some x) × Shows eq t x

pub leads_nowhere : (eq : Wish → Wish → Bool) (t : Tables) (r : Option Coloured) → Leads eq t false r → r ≡ None
leads_nowhere eq t None h = refl
leads_nowhere eq t (Some x) h = absurd h

pub leads_on : (eq : Wish → Wish → Bool) (t : Tables) (r : Option Coloured) → Leads eq t true r → Next eq t r
leads_on eq t (Some x) h = (x, refl, h)
leads_on eq t None h = absurd h

-- a new mutex that may not be named, and one that may
pub unnamed : (eq : Wish → Wish → Bool) (t : Tables) (e : EntryView) (s : Coloured) → is_new_name s e.server e.done ≡ false → Leads eq t false (with_mutex e s)
unnamed eq t e s no_name = subst (λ (b : Bool). Leads eq t false (if b then Some (with_new_mutex e.done s) else None)) (sym no_name) tt

pub named : (eq : Wish → Wish → Bool) (t : Tables) (e : EntryView) (s : Coloured) → is_new_name s e.server e.done ≡ true → Shows eq t (with_new_mutex e.done s) → Leads eq t true (with_mutex e s)
named eq t e s a_name h = subst (λ (b : Bool). Leads eq t true (if b then Some (with_new_mutex e.done s) else None)) (sym a_name) h

-- ACTS

pub none_dropped : {A : Type 0} (xs : List A) → drop 0 xs ≡ xs
none_dropped [] = refl
none_dropped (x ∷ xs) = refl

-- one act more
pub act_next : (o : Options) (e : EntryView) (acts : List Act) (i : ℕ) (a : Act) (x : Coloured) → i < length acts → a ≡ slice_index_or acts i a
    → acts_after o e (drop i acts) x ≡ (if allows o e x a then acts_after o e (drop (i + 1) acts) (after_act e x a) else None)
act_next o e acts i a x low here = ap (λ (more : List Act). acts_after o e more x) (drop_more acts i a low ∙ ap (λ (b : Act). b ∷ drop (i + 1) acts) (sym here))

-- ENTRIES

-- an entry that stands where it may not, one whose acts aren't all allowed, and one whose acts are
pub misplaced : (eq : Wish → Wish → Bool) (t : Tables) (o : Options) (e : EntryView) (s : Coloured) → is_placed o s e ≡ false → Leads eq t false (entry_after o s e)
misplaced eq t o e s no_place = subst (λ (b : Bool). Leads eq t false (settled e (if b then acts_after o e e.acts s else None))) (sym no_place) tt

acted : (o : Options) (e : EntryView) (s : Coloured) (r : Option Coloured) → is_placed o s e ≡ true → acts_after o e e.acts s ≡ r → entry_after o s e ≡ settled e r
acted o e s r placed acts = ap (λ (b : Bool). settled e (if b then acts_after o e e.acts s else None)) placed ∙ ap (settled e) acts

pub stopped : (eq : Wish → Wish → Bool) (t : Tables) (o : Options) (e : EntryView) (s : Coloured) → is_placed o s e ≡ true → acts_after o e e.acts s ≡ None → Leads eq t false (entry_after o s e)
stopped eq t o e s placed none = subst (Leads eq t false) (sym (acted o e s None placed none)) tt

pub gone_on : (eq : Wish → Wish → Bool) (t : Tables) (o : Options) (e : EntryView) (s x : Coloured) (b : Bool) → is_placed o s e ≡ true → acts_after o e e.acts s ≡ Some x → Leads eq t b (with_mutex e (stored e.labels x)) → Leads eq t b (entry_after o s e)
gone_on eq t o e s x b placed acts h = subst (Leads eq t b) (sym (acted o e s (Some x) placed acts)) h

-- the main thread stands at server 0
abbrev main : Running
main = record { thread = 0; server = 0; has_ended = false }

pub main_stands : (b : Bool) (r : Option Stand) → r ≡ None → cond b (Some (stand_of main)) r ≡ option_map stand_of (if b then Some main else None)
main_stands true r none = refl
main_stands false r none = none

-- one entry more
pub entry_next : (o : Options) (es : List EntryView) (i : ℕ) (e : EntryView) (x : Coloured) → i < length es → e ≡ slice_index_or es i e
    → illegal_from o x i (drop i es) ≡ otherwise (entry_after o x e) i (λ after. illegal_from o after (i + 1) (drop (i + 1) es))
entry_next o es i e x low here =
    let more : suc i ≡ i + 1 = omega arith in
    ap (λ (xs : List EntryView). illegal_from o x i xs) (drop_more es i e low ∙ ap (λ (b : EntryView). b ∷ drop (i + 1) es) (sym here))
    ∙ ap (λ (n : ℕ). otherwise (entry_after o x e) i (λ after. illegal_from o after n (drop (i + 1) es))) more
