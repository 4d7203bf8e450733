-- A thread has given a new one an owned variable, which moved.
use Rattle.std.proofs.Common.{◌≡◌, ◌≢◌, inl, ⊎_elim, ◌∙◌, ℕ, suc, Bool, List, ◌∷◌, length, Some, refl, sym, ap, subst, arith}
use Rattle.fr_base.specs.declared.label.Plain.{Plain}
use Rattle.fr_base.specs.declared.label.Plain.TheVariants as plain
use Rattle.fr_terms.specs.Terms.{Text}
use Rattle.fr_typing.specs.Kinds.{Owned, own, whole, gone}
use Rattle.fr_typing.specs.Places.{Env, found, type_at, put_at}
use Rattle.fr_store.specs.Keys.{Key, slot_k}
use Rattle.fr_store.specs.Store.{Alike, at_key, gone_v, ref_v, Store, Place, swap}
use Rattle.fr_store.specs.Changes.{SameButTwo}
use Rattle.fr_store.specs.Typed.{Tree, hole, owns, refers, KeyTypes, Typed, Unnamed}
use Rattle.fr_store.specs.Below.{tree_of, ExactOf}
use Rattle.fr_store.specs.Rows.{with_type}
use Rattle.fr_store.proofs.Keys.{key_same, key_other, decide_number}
use Rattle.fr_store.proofs.Capture.{captured_types}
use Rattle.fr_store.proofs.Below.{slot_exact, mut_place}
use Rattle.fr_store.proofs.PutAt.{slots_gone, nested_put, length_put}
use Rattle.fr_store.proofs.Rows.{swap_own, same_store, unnamed_with}
use Rattle.fr_store.proofs.ThreadKept.{exact_owned, known_tree, slots_with, still_hole}
use Rattle.fr_plain.specs.declared.value.Value.{Value}
use Rattle.fr_plain.specs.declared.value.Value.TheVariants.{Own, Held}
use Rattle.fr_plain.specs.State.{slot_at, with_slot}
use Rattle.fr_plain.specs.PlainState.{Running, PlainState}
use Rattle.fr_sound.specs.Seen.{owned_val}
use Rattle.fr_sound.specs.States.{Typing, owned_part, is_held}
use Rattle.fr_sound.proofs.SeenLemmas.{length_with_slot}
use Rattle.law_plain_values.specs.acts.Positions.{Position}
use Rattle.law_plain_values.proofs.acts.Lower.{seen_as}
use Rattle.law_plain_values.proofs.acts.OneThread.{store, typing_with}
use Rattle.law_plain_values.proofs.acts.AtHand.{mark_off}
use Rattle.law_plain_values.proofs.acts.Moved.{carried_swap}
use Rattle.law_plain_values.proofs.acts.Hand.{pushed_here}
use Rattle.law_plain_values.proofs.acts.SlotTurn.{alike_swap}
use Rattle.law_plain_values.proofs.acts.Slots.{lock_with}
use Rattle.law_plain_values.proofs.acts.Envs.{hidden_put, owned_put, part_type}
use Rattle.law_plain_values.proofs.acts.Written.{slot_written, slot_unwritten}
use Rattle.law_plain_threads.proofs.threads.Passed.{Passes, has_slot, has_new, had_slot, passed_same}
use Rattle.law_plain_threads.proofs.threads.Given.{Refers, Giver, Given, next_free, next_hole, next_gone, new_many}

module _ {y : Typing} {a a2 : PlainState Position} {t u : ℕ} {x x2 xu xu2 : Running Position} {e n : Env} {g : Owned} (f : Giver y a t u x xu e n g) (name : Text) (i : ℕ) (o : Owned) (v : Plain) (type : type_at e (record { slot = i; depth = 0 }) ≡ found (whole (own o))) (free_from : Unnamed y.exact (slot_k t i))
    (is : slot_at x.slots i ≡ Some (Own v)) (passes : Passes a a2 t u x x2 xu xu2 i (length n)) (left : x2.slots ≡ with_slot x.slots i (Own plain.Nothing)) (got : xu2.slots ≡ Own v ∷ xu.slots) where
  abbrev from : Key
  from = slot_k t i

  abbrev to : Key
  to = slot_k u (length n)

  abbrev O : Tree
  O = tree_of o

  abbrev gone_value : Value
  gone_value = Own plain.Nothing

  abbrev e2 : Env
  e2 = put_at e (record { slot = i; depth = 0 }) (gone (own o))

  abbrev sl : List Value
  sl = with_slot x.slots i (Own plain.Nothing)

  abbrev E1 : KeyTypes
  E1 = with_type y.exact (slot_k t i) (owns hole)

  abbrev E2 : KeyTypes
  E2 = captured_types (slot_k t) (slot_k u) n y.exact i o

  abbrev s1 : Store
  s1 = store y a

  abbrev s2 : Store
  s2 = store (typing_with y (captured_types (slot_k t) (slot_k u) n y.exact i o) y.marks) a2

  free_to : Unnamed y.exact to
  free_to = next_free f

  hole_to : y.exact to ≡ owns hole
  hole_to = next_hole f

  full_from : y.exact from ≡ owns O
  full_from = exact_owned (slot_k t) y.exact o (y.exact from) (slot_exact (slot_k t) y.exact (mut_place y.rank y.exact s1 f.state.typed) e i (whole (own o)) f.slots type)

  apart : to ≢ from
  apart q = f.differ cc

  free_two : Unnamed E1 to
  free_two = unnamed_with y.exact from hole to free_to

  off : (j : Key) → j ≢ to → j ≢ from → E2 j ≡ y.exact j
  off j nt nf = key_other j to (owns O) (E1 j) nt ∙ key_other j from (owns hole) (y.exact j) nf

  is_to : E2 to ≡ owns O
  is_to = key_same to (owns O) (E1 to)

  -- WHAT STANDS

  was_from : s1.at from ≡ owned_val y.gives v
  was_from = had_slot y E2 passes i ∙ ap (seen_as y.gives t _) is

  now_from : s2.at from ≡ gone_v
  now_from = has_slot y E2 passes i ∙ ap (λ z. seen_as y.gives t (ref_v (y.marks t i)) (slot_at z i)) left ∙ ap (seen_as y.gives t _) (slot_written x.slots i gone_value (Own v) is)

  now_to : s2.at to ≡ owned_val y.gives v
  now_to = has_new y E2 passes (length n) ∙ ap (λ z. seen_as y.gives u (ref_v (y.marks u (length n))) (slot_at z (length n))) got ∙ ap (seen_as y.gives u _) (pushed_here (Own v) xu.slots (length n) (sym (new_many f)))

  same : SameButTwo (at_key to) (at_key from) s1 s2
  same = passed_same y E2 passes

  was_to : s1.at to ≡ gone_v
  was_to = next_gone f

  alike : Alike (swap s1 to (at_key from)) s2
  alike = alike_swap s1 s2 to (at_key from) (owned_val y.gives v) (λ q. let d : from ≡ to = cc in apart (sym d)) (ap Some was_from) same (ap Some (now_from ∙ sym was_to)) now_to

  typed : Typed y.rank E2 s2
  typed = same_store y.rank E2 E2 (swap s1 to (at_key from)) s2 (swap_own y.rank y.exact s1 to from 0 hole O O (at_key from) f.state.typed free_to apart hole_to free_from full_from refl refl) (λ k. refl) alike

  -- what refers then referred before
  pub move_refs : (j : Key) (b : Bool) (z : Place) → captured_types (slot_k t) (slot_k u) n y.exact i o j ≡ refers b z → y.exact j ≡ refers b z
  move_refs j b z r = known_tree (slot_k t) from y.exact from hole j b z (known_tree (slot_k t) from E1 to O j b z r)

  unwritten : (b : ℕ) → b ≢ i → slot_at sl b ≡ slot_at x.slots b
  unwritten b ne = slot_unwritten x.slots i b gone_value ne

  long : length e2 ≡ length e
  long = length_put e (record { slot = i; depth = 0 }) (gone (own o))

  pub move_given : Given y a a2 t u x xu e (put_at e (record { slot = i; depth = 0 }) (gone (own o))) n (with_slot x.slots i (Own plain.Nothing)) (record { name = Some name; part = whole (own o) }) (Own v) (captured_types (slot_k t) (slot_k u) n y.exact i o)
  move_given = record {
    typed = typed;
    refs = λ j b z r. inl (move_refs j b z r);
    off = λ j ne nt. off j ne (nt i);
    keeps = λ k h. off (slot_k t k) (λ q. f.differ cc) (refers_else k h);
    nested = nested_put e (record { slot = i; depth = 0 }) (gone (own o)) tt f.nested;
    below = slots_with (slot_k t) E1 to (owns O) e2 free_two (λ k il q. f.differ cc) (slots_gone (slot_k t) y.exact e i (own o) (λ c d h. cc) f.slots free_from);
    long = long;
    above = λ k le. key_other (slot_k t k) to (owns O) (E1 (slot_k t k)) (λ q. f.differ cc) ∙ still_hole y.exact from (slot_k t k) (f.above k le);
    nested_new = (tt, f.focus.thread.nested);
    below_new = (
      subst (ExactOf (slot_k u) E2 (whole (own o))) (sym is_to) refl,
      slots_with (slot_k u) E1 to (owns O) n free_two (λ k il q. let d : k ≡ length n = cc in omega (arith, il, d)) (slots_with (slot_k u) y.exact from (owns hole) n free_from (λ k il q. f.differ cc) f.focus.thread.slots),
    );
    below_other = λ w m nt nu h. slots_with (slot_k w) E1 to (owns O) m free_two (λ k il q. nu cc) (slots_with (slot_k w) y.exact from (owns hole) m free_from (λ k il q. nt cc) h);
    held = λ b k q z runs mark. same (y.marks b k) (mark_off y a b k q z to f.state runs mark free_to) (mark_off y a b k q z from f.state runs mark free_from);
    carried = carried_swap s1 s2 to (at_key from) same (ap Some (now_from ∙ sym was_to)) (ap Some (now_to ∙ sym was_from));
    slots = length_with_slot x.slots i gone_value ∙ f.many;
    hidden = λ b. hidden_put e (record { slot = i; depth = 0 }) (gone (own o)) b ∙ f.hidden b ∙ sym (marks_same b);
    marked = λ b q h. ⊎_elim (λ (d : b ≡ i). let r : Some gone_value ≡ Some (Held q) = sym (slot_written x.slots i gone_value (Own v) is) ∙ ap (slot_at sl) (sym d) ∙ h in cc) (λ (ne : b ≢ i). sym (unwritten b ne) ∙ h) (decide_number b i);
    still = λ b q h. ⊎_elim (λ (d : b ≡ i). let r : Some (Own v) ≡ Some (Held q) = sym is ∙ ap (slot_at x.slots) (sym d) ∙ h in cc) (λ (ne : b ≢ i). unwritten b ne ∙ h) (decide_number b i);
    content = λ s b q h d. lock_with (owned_put e (record { slot = i; depth = 0 }) (gone (own o)) (λ z r. let r1 : found z.part ≡ found (whole (own o)) = sym (part_type e i z r) ∙ type in let r2 : z.part ≡ whole (own o) = cc in sym (ap owned_part r2)) (suc b)) d;
    clear = refl;
    named = refl;
  }
    where
      -- a slot that refers isn't the one that moves
      refers_else : (k : ℕ) → Refers (y.exact (slot_k t k)) → slot_k t k ≢ from
      refers_else k h q = let d : owns O ≡ refers h.0 h.1 = sym full_from ∙ ap y.exact (sym q) ∙ h.2 in cc

      marks_same : (b : ℕ) → is_held (slot_at sl b) ≡ is_held (slot_at x.slots b)
      marks_same b =
          ⊎_elim (λ (d : b ≡ i). ap (λ z. is_held (slot_at sl z)) d ∙ ap is_held (slot_written x.slots i gone_value (Own v) is) ∙ sym (ap is_held is) ∙ ap (λ z. is_held (slot_at x.slots z)) (sym d)) (λ (ne : b ≢ i). ap is_held (unwritten b ne)) (decide_number b i)
