-- What a thread may give a new one: an owned value, which moves or is copied.
use Rattle.std.proofs.Common.{◌≡◌, ◌∙◌, ℕ, suc, ◌<◌, true, List, [], ◌∷◌, length, Some, None, refl, sym, ap, subst, arith}
use Rattle.std.specs.Prelude.{if◌then◌else◌}
use Rattle.fr_sound.specs.Seen.{Gives}
use Rattle.fr_typing.proofs.PlaceLemmas.{eq_cases}
use Rattle.fr_base.specs.declared.label.Plain.{Plain}
use Rattle.fr_typing.specs.Kinds.{Owned, unit, int, box, mutex, task, own, whole, copies}
use Rattle.fr_typing.specs.Places.{Env, found, type_at}
use Rattle.fr_store.specs.Keys.{Key, slot_k}
use Rattle.fr_store.specs.Store.{Location, at_key, at_object, Val, ref_v, Store, put_value}
use Rattle.fr_store.specs.Typed.{owns, KeyTypes, TopFits, tree_under}
use Rattle.fr_store.specs.Below.{tree_of}
use Rattle.fr_store.specs.Rows.{with_type}
use Rattle.fr_store.proofs.Keys.{key_same, key_other}
use Rattle.fr_store.proofs.Below.{mut_place, slot_exact}
use Rattle.fr_store.proofs.Rows.{top_fits, put_there, put_other}
use Rattle.fr_store.proofs.ThreadKept.{exact_owned}
use Rattle.fr_plain.specs.declared.value.Value.{Value}
use Rattle.fr_plain.specs.declared.value.Value.TheVariants.{Own, ToSlot, ToObject, Held}
use Rattle.fr_plain.specs.State.{slot_at}
use Rattle.fr_plain.specs.PlainState.{Running, PlainState}
use Rattle.fr_sound.specs.States.{Typing, slot_val}
use Rattle.law_plain_values.specs.acts.Positions.{Position, temps_of}
use Rattle.law_plain_values.proofs.acts.Lower.{seen_as, seen_is}
use Rattle.law_plain_values.proofs.acts.OneThread.{store, Counted}
use Rattle.law_plain_values.proofs.acts.Flat.{flat_typed}
use Rattle.law_plain_threads.proofs.threads.Given.{Giver, next_free}
use Rattle.law_plain_threads.proofs.threads.GivenCopy.{Copies}

-- VALUES

-- no reference is of an owned type
no_ref : (o : Owned) (l : Location) → TopFits (tree_of o) (ref_v l) → ⊥
no_ref unit l f = cc
no_ref int l f = let g = f.1 in cc
no_ref (box o) l f = let g = f.1 in cc
no_ref (mutex o) l f = let g = f.1 in cc
no_ref (task o) l f = let g = f.1 in cc

-- a slot's value of an owned type is owned
pub own_by : (g : Gives) (t : ℕ) (l : Location) (o : Owned) (v : Value) → TopFits (tree_of o) (seen_as g t (ref_v l) (Some v)) → (p : Plain) × (v ≡ Own p)
own_by g t l o (Own p) f = (p, refl)
own_by g t l o (ToSlot i) f = absurd (no_ref o (at_key (slot_k t i)) f)
own_by g t l o (ToObject q) f = absurd (no_ref o (at_object q) f)
own_by g t l o (Held m) f = absurd (no_ref o l f)

-- a slot with a number below the number of slots is there
pub slot_there : (vs : List Value) (i : ℕ) → i < length vs → (v : Value) × (slot_at vs i ≡ Some v)
slot_there [] i l = absurd (omega (arith, l))
slot_there (v ∷ vs) i l = eq_cases (λ b. (w : Value) × ((if b then Some v else slot_at vs i) ≡ Some w)) i (length vs) (λ e. (v, refl)) (λ ne. slot_there vs i (omega (arith, l, ne)))

-- what is copied has no boxes and isn't counted
flat_copy : (o : Owned) → copies (own o) ≡ true → (i : ℕ) → tree_under (suc i) (tree_of o) ≡ None
flat_copy unit c i = refl
flat_copy int c i = refl
flat_copy (box o) c i = cc
flat_copy (mutex o) c i = cc
flat_copy (task o) c i = cc

plain_copy : (o : Owned) (v : Val) → copies (own o) ≡ true → TopFits (tree_of o) v → Counted v → ⊥
plain_copy unit v c f d = subst Counted f d
plain_copy int v c f d = subst Counted f.1 d
plain_copy (box o) v c f d = cc
plain_copy (mutex o) v c f d = cc
plain_copy (task o) v c f d = cc

module _ {y : Typing} {a : PlainState Position} {t u : ℕ} {x xu : Running Position} {e n : Env} {g : Owned} (f : Giver y a t u x xu e n g) (i : ℕ) (lt : i < length e) where
  abbrev s1 : Store
  s1 = store y a

  abbrev from : Key
  from = slot_k t i

  pub value_there : (v : Value) × (slot_at x.slots i ≡ Some v)
  value_there = let d = f.many in slot_there x.slots i (omega (arith, lt, d))

  pub stands : (v : Value) → slot_at x.slots i ≡ Some v → s1.at from ≡ seen_as y.gives t (ref_v (y.marks t i)) (Some v)
  stands v is = ap (slot_val temps_of y t i) f.runs ∙ seen_is temps_of y t i x ∙ ap (seen_as y.gives t (ref_v (y.marks t i))) is

  -- OWNED VALUES

  module _ (o : Owned) (type : type_at e (record { slot = i; depth = 0 }) ≡ found (whole (own o))) where
    pub owned_type : y.exact from ≡ owns (tree_of o)
    owned_type = exact_owned (slot_k t) y.exact o (y.exact from) (slot_exact (slot_k t) y.exact (mut_place y.rank y.exact s1 f.state.typed) e i (whole (own o)) f.slots type)

    owned_fits : TopFits (tree_of o) (s1.at from)
    owned_fits = top_fits y.rank y.exact s1 f.state.typed from (tree_of o) owned_type

    pub owned_there : (v : Plain) × (slot_at x.slots i ≡ Some (Own v))
    owned_there =
        let v = value_there in
        let d = own_by y.gives t (y.marks t i) o v.0 (subst (TopFits (tree_of o)) (stands v.0 v.1) owned_fits) in
        (d.0, v.1 ∙ ap Some d.1)

    abbrev to : Key
    to = slot_k u (length n)

    abbrev E2 : KeyTypes
    E2 = with_type y.exact (slot_k u (length n)) (owns (tree_of o))

    abbrev s2 : Store
    s2 = put_value (store y a) (at_key (slot_k u (length n))) ((store y a).at (slot_k t i))

    now_there : s2.at to ≡ s1.at from
    now_there = some (put_there s1 (at_key to) (s1.at from))
      where
        some : {p q : Val} → Some p ≡ Some q → p ≡ q
        some r = cc

    -- a copy
    pub owned_copies : copies (own o) ≡ true → (v : Plain) → slot_at x.slots i ≡ Some (Own v) → Copies y a t u x n (own o) (Own v) i (owns (tree_of o))
    owned_copies copied v is = record {
      is = is;
      clear = refl;
      typed = flat_typed y.rank y.exact E2 s1 s2 to (tree_of o) f.state.typed (next_free f) (λ j ne. key_other j to (owns (tree_of o)) (y.exact j) ne) (λ l ne. put_other s1 (at_key to) (s1.at from) l ne) (key_same to (owns (tree_of o)) (y.exact to))
          (subst (TopFits (tree_of o)) (sym now_there) owned_fits) (flat_copy o copied) (λ q r. plain_copy o (s1.at from) copied owned_fits (subst Counted (sym (sym now_there ∙ r)) tt));
      exact = refl;
      names = tt;
      view = λ b z q. cc;
      plain = plain_copy o (s1.at from) copied owned_fits;
      sees = λ mark. sym (stands (Own v) is);
    }
