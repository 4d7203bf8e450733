-- Acts of an entry one behind another: one more that is allowed, hops at objects that lie at the entry's server, and the acts without hops.
use Rattle.std.proofs.Common.{◌≡◌, ℕ, ◌==◌, ◌&&◌, not, Bool, true, false, if◌then◌else◌, List, [], ◌∷◌, ◌++◌, Some, None, refl, sym, ap, ◌∙◌}
use Rattle.law_entries_reads.specs.Below.law_entries_variables.Below.fr_base.declared.name.ObjNo.{ObjNo}
use Rattle.law_entries_reads.specs.Below.law_entries_variables.Below.fr_base.declared.settings.Options.{Options}
use Rattle.law_entries_reads.specs.Below.law_entries_variables.Below.journal.View.{EntryView}
use Rattle.law_entries_reads.specs.Below.law_entries_variables.Below.journal.declared.act.Act.{Act}
use Rattle.law_entries_reads.specs.Below.law_entries_variables.Below.journal.declared.act.Act.TheVariants as act
use Rattle.law_entries_reads.specs.Below.law_entries_variables.Below.server_model.Work.{is_hop, without_hops}
use Rattle.law_entries_reads.specs.Below.law_entries_variables.Below.coloured_heap.Lists.{holds}
use Rattle.law_entries_reads.specs.Below.law_entries_variables.Below.coloured_heap.Heap.{Living, Coloured, lies_at}
use Rattle.law_entries_reads.specs.Below.law_entries_variables.Below.coloured_heap.Rules.{allows, names, is_here}
use Rattle.law_entries_reads.specs.Below.law_entries_variables.Below.coloured_heap.Changes.{after_act}
use Rattle.law_entries_reads.specs.Below.law_entries_variables.Below.coloured_heap.Legal.{acts_after}
use Rattle.law_entries_reads.proofs.Below.law_entries_variables.deliveries.Answers.{Answers, Fits, Allowed}
use Rattle.law_entries_reads.proofs.Below.law_entries_variables.deliveries.Runs.{Runs}
use Rattle.law_entries_reads.proofs.asks.Recoloured.{and_true, Named}

-- acts one behind another
acts_append : (o : Options) (e : EntryView) (xs ys : List Act) (c d : Coloured) → acts_after o e xs c ≡ Some d → acts_after o e (xs ++ ys) c ≡ acts_after o e ys d
acts_append o e [] ys c d q = ap (acts_after o e ys) (same q)
  where
    same : Some c ≡ Some d → c ≡ d
    same e = cc
acts_append o e (x ∷ xs) ys c d q = by (allows o e c x) q (acts_append o e xs ys (after_act e c x) d)
  where
    by : (b : Bool) → (if b then acts_after o e xs (after_act e c x) else None) ≡ Some d → (acts_after o e xs (after_act e c x) ≡ Some d → acts_after o e (xs ++ ys) (after_act e c x) ≡ acts_after o e ys d)
        → (if b then acts_after o e (xs ++ ys) (after_act e c x) else None) ≡ acts_after o e ys d
    by true f go = go f
    by false f go = absurd (cc f)

-- one act more
pub runs_more : (o : Options) (e : EntryView) (acts : List Act) (a : Act) (c : Coloured) (q r : Answers) → Runs o e acts c q → ((d : Coloured) → Fits q d → Allowed o e d a r) → Runs o e (acts ++ a ∷ []) c r
runs_more o e acts a c q r x go =
    let next = go x.state x.fits in
    record { state = after_act e x.state a; runs = acts_append o e acts (a ∷ []) c x.state x.runs ∙ ap (λ b. if b then Some (after_act e x.state a) else None) next.allowed; fits = next.fits }

names_it : (c : Coloured) (q : Answers) (p : ObjNo) (w : ℕ) → Fits q c → Named q p w → names c p w ≡ true
names_it c q p w h n = ap (holds (λ (x : Living). (x.word == w) && not x.is_condemned)) (h.objects p ∙ n.there) ∙ and_true (n.living.word == w) (not n.living.is_condemned) n.word (ap not n.kept)

-- a hop at an object that lies at the entry's server
pub local_allowed : (o : Options) (e : EntryView) (c : Coloured) (q : Answers) (p : ObjNo) (w : ℕ) → Fits q c → (n : Named q p w) → lies_at e.server n.living.place ≡ true → Allowed o e c (act.Local p w) q
local_allowed o e c q p w h n here = record {
  allowed = and_true (names c p w) (is_here e c p) (names_it c q p w h n) (ap (holds (λ (x : Living). lies_at e.server x.place)) (h.objects p ∙ n.there) ∙ here);
  fits = h;
}

-- WITHOUT HOPS

-- a hop leaves the state
hop_still : (e : EntryView) (c : Coloured) (a : Act) → is_hop a ≡ true → after_act e c a ≡ c
hop_still e c (act.Local p w) h = refl
hop_still e c (act.Hit p w) h = refl
hop_still e c _ h = absurd (cc h)

without_run : (o : Options) (e : EntryView) (acts : List Act) (c d : Coloured) → acts_after o e acts c ≡ Some d → acts_after o e (without_hops acts) c ≡ Some d
without_run o e [] c d q = q
without_run o e (a ∷ acts) c d q = by (allows o e c a) refl (is_hop a) refl q (without_run o e acts (after_act e c a) d)
  where
    by : (b : Bool) → allows o e c a ≡ b → (h : Bool) → is_hop a ≡ h → (if b then acts_after o e acts (after_act e c a) else None) ≡ Some d
        → (acts_after o e acts (after_act e c a) ≡ Some d → acts_after o e (without_hops acts) (after_act e c a) ≡ Some d) → acts_after o e (if h then without_hops acts else a ∷ without_hops acts) c ≡ Some d
    by false x h y f go = absurd (cc f)
    by true x true y f go = ap (λ z. acts_after o e (without_hops acts) z) (sym (hop_still e c a y)) ∙ go f
    by true x false y f go = ap (λ z. if z then acts_after o e (without_hops acts) (after_act e c a) else None) x ∙ go f

-- the acts of an event that ends with a request run so too
pub quiet : (o : Options) (e : EntryView) (acts : List Act) (c : Coloured) (q : Answers) → Runs o e acts c q → Runs o e (without_hops acts) c q
quiet o e acts c q x = record { state = x.state; runs = without_run o e acts c x.state x.runs; fits = x.fits }
