-- Where one pointer gets another word, places lead where they led, and what is stale was so or stands above that pointer.
use Rattle.std.proofs.Common.{◌≡◌, ◌⊎◌, inl, inr, ⊎_elim, ℕ, Bool, true, false, List, [], ◌∷◌, Some, refl, sym, ap, subst, ◌∙◌}
use Rattle.law_words_paths.specs.Below.fr_base.declared.name.ObjNo.{ObjNo}
use Rattle.law_words_paths.specs.Below.fr_base.declared.place.Lval.{Lval}
use Rattle.law_words_paths.specs.Below.heap_partition.declared.value.BoxPtr.{BoxPtr}
use Rattle.law_words_paths.specs.Below.heap_partition.declared.value.Owned.TheVariants as owned
use Rattle.law_words_paths.specs.Below.mut_borrow.declared.mutable.MutRef.{MutRef}
use Rattle.law_words_paths.specs.Below.mut_borrow.Refs.{changed}
use Rattle.law_words_paths.specs.Below.thread_state.declared.value.Value.{Value}
use Rattle.law_words_paths.specs.Below.thread_state.declared.value.Value.TheVariants as value
use Rattle.law_words_paths.specs.Below.server_model.Servers.{Cluster}
use Rattle.law_words_paths.specs.Below.server_model.Places.{with_word, took}
use Rattle.law_words_paths.specs.Below.coherent_memory.Names.{Among}
use Rattle.law_words_paths.specs.Below.coherent_memory.Things.{Location, in_cell, Thing, borrows, things_of}
use Rattle.law_words_paths.specs.Below.coherent_memory.Follow.{Ground, value_in, leads}
use Rattle.law_words_paths.specs.Below.coherent_memory.Stale.{same_location, is_among, Reference, references, holder_of, is_held_at, lent_places, changed_above, stale_above, taken_above}
use Rattle.law_words_paths.specs.Below.coherent_memory.Sight.{taken_pointers, sight}
use Rattle.law_words_paths.specs.Below.coherent_memory.Words.{IsStale}
use Rattle.law_words_paths.specs.paths.Pointing.{Above, made_from, made_below}
use Rattle.law_words_paths.proofs.paths.Sole.{some_is}
use Rattle.law_words_paths.proofs.paths.Contained.{location_itself, reference_there}
use Rattle.law_words_paths.proofs.paths.FreshPaths.{same_is, held_at}
use Rattle.law_words_paths.specs.words.Reworded.{HasPlaces, Renewed, a_box, a_reference, Reworded}
use Rattle.law_words_paths.proofs.words.Follows.{holders_lead, lents_lead, takens_lead}
use Rattle.law_words_paths.proofs.words.Standing.{borrow_stands}

-- a location is another one or the same
pub same_place : (l m : Location) → (l ≡ m) ⊎ (l ≡ m → ⊥)
same_place l m = by (same_location l m) refl
  where
    by : (b : Bool) → same_location l m ≡ b → (l ≡ m) ⊎ (l ≡ m → ⊥)
    by true e = inl (same_is l m e)
    by false e = inr (λ q. let t : true ≡ false = sym (location_itself m) ∙ ap (λ n. same_location n m) (sym q) ∙ e in absurd cc)

-- RENEWED POINTERS

pub renews : (w : ℕ) (old new : Value) → with_word w old ≡ Some new → Renewed w old new
renews w (value.Own (owned.Box p)) new e = a_box p refl (sym (some_is e))
renews w (value.Mut r) new e = a_reference r (took r w) refl (sym (some_is e)) refl refl refl refl
renews w _ new e = absurd cc

-- another word leads to the same object
leads_same : (t w : ℕ) (old new : Value) → Renewed w old new → leads t (Some new) ≡ leads t (Some old)
leads_same t w old new (a_box p e f) = ap (λ v. leads t (Some v)) f ∙ sym (ap (λ v. leads t (Some v)) e)
leads_same t w old new (a_reference r q e f word first object holder) = ap (λ v. leads t (Some v)) f ∙ ap (λ o. Some (in_cell o)) object ∙ sym (ap (λ v. leads t (Some v)) e)

-- two references that were made from the same word of an object, at one place
pub record AlikeMade (r q : MutRef) : Type 0 where
  pub first : r.first ≡ q.first
  pub object : r.object ≡ q.object
  pub holder : r.holder ≡ q.holder

mut_same : (r q : MutRef) → value.Mut r ≡ value.Mut q → r ≡ q
mut_same r q e = cc

no_mut : (p : BoxPtr) (q : MutRef) → value.Own (owned.Box p) ≡ value.Mut q → ⊥
no_mut p q e = absurd cc

renewed_reference : (w : ℕ) (old new : Value) (q : MutRef) → Renewed w old new → old ≡ value.Mut q → (m : MutRef) × (new ≡ value.Mut m) × AlikeMade m q
renewed_reference w old new q (a_box p e f) g = absurd (no_mut p q (sym e ∙ g))
renewed_reference w old new q (a_reference r m e f word first object holder) g =
    let same : r ≡ q = mut_same r q (sym e ∙ g) in (m, f, subst (λ y. AlikeMade m y) same (record { first = first; object = object; holder = holder }))

reference_renewed : (w : ℕ) (old new : Value) (q : MutRef) → Renewed w old new → new ≡ value.Mut q → (m : MutRef) × (old ≡ value.Mut m) × AlikeMade m q
reference_renewed w old new q (a_box p e f) g = absurd (no_mut (record p { word = w }) q (sym f ∙ g))
reference_renewed w old new q (a_reference r m e f word first object holder) g =
    let same : m ≡ q = mut_same m q (sym f ∙ g) in (r, e, subst (λ y. AlikeMade r y) same (record { first = sym first; object = sym object; holder = sym holder }))

-- a reference of these stands among them
pub record OfBorrows (g : Ground) (q : Reference) (b : List Thing) : Type 0 where
  pub among : Among (borrows q.at q.reference) b
  pub holder : q.holder ≡ holder_of g q.at q.reference.holder

pub of_borrows : (g : Ground) (q : Reference) (b : List Thing) → Among q (references g b) → OfBorrows g q b
of_borrows g q [] h = absurd h
of_borrows g q (borrows l r ∷ b) (inl e) = record {
  among = inl (ap (λ (y : Reference). borrows y.at y.reference) e);
  holder = subst (λ (y : Reference). y.holder ≡ holder_of g y.at y.reference.holder) e refl;
}
of_borrows g q (borrows l r ∷ b) (inr h) = let y = of_borrows g q b h in record { among = inr y.among; holder = y.holder }
of_borrows g q (_ ∷ b) h = let y = of_borrows g q b h in record { among = inr y.among; holder = y.holder }

-- a reference that was made from a pointer above stands below it
pub climb : (g : Ground) (l m h : Location) (r : MutRef) → value_in g m ≡ Some (value.Mut r) → holder_of g m r.holder ≡ Some l → Above g m h → Above g l h
climb g l m _ r e f (made_from q at held) = made_below q at held (made_from r e f)
climb g l m _ r e f (made_below {h = j} q at held rest) = made_below q at held (climb g l m j r e f rest)

module _ (k z : Cluster) (h : Location) (o : ObjNo) (w : ℕ) (r : Reworded k z h o w) where
  abbrev gk : Ground
  gk = (sight k).ground

  abbrev gz : Ground
  gz = (sight z).ground

  value_leads : (t : ℕ) (l : Location) → leads t (value_in gz l) ≡ leads t (value_in gk l)
  value_leads t l =
      ⊎_elim
      (λ (e : l ≡ h). ap (λ n. leads t (value_in gz n)) e ∙ ap (leads t) r.stands ∙ leads_same t w r.old r.new r.renewed ∙ sym (ap (leads t) r.stood) ∙ sym (ap (λ n. leads t (value_in gk n)) e))
      (λ (n : l ≡ h → ⊥). ap (leads t) (r.elsewhere l n)) (same_place l h)

  pub holders_same : (l : Location) (v : Lval) → holder_of gz l v ≡ holder_of gk l v
  holders_same l v = holders_lead gk gz value_leads l v

  pub lent_all : lent_places (sight z).code gz gz.threads ≡ lent_places (sight k).code gk gk.threads
  lent_all = ap (λ c. lent_places c gz gz.threads) r.code ∙ lents_lead gk gz value_leads k.code gz.threads gk.threads r.turns

  pub taken_all : taken_pointers (sight z).code gz gz.threads ≡ taken_pointers (sight k).code gk gk.threads
  taken_all = ap (λ c. taken_pointers c gz gz.threads) r.code ∙ takens_lead gk gz value_leads k.code gz.threads gk.threads r.turns

  -- REFERENCES

  -- the reference that stands where one stood, or stood where one stands
  pub record Opposite (g : Ground) (rs : List Reference) (q : Reference) : Type 0 where
    pub reference : Reference
    pub among : Among reference rs
    pub at : reference.at ≡ q.at
    pub holder : reference.holder ≡ q.holder
    pub value : value_in g reference.at ≡ Some (value.Mut reference.reference)
    pub held : holder_of g reference.at reference.reference.holder ≡ reference.holder
    -- what it was made from: the same word of the same object
    pub first : reference.reference.first ≡ q.reference.first
    pub object : reference.reference.object ≡ q.reference.object

  pub reference_now : (q : MutRef) → value_in gk h ≡ Some (value.Mut q) → (m : MutRef) × (value_in gz h ≡ Some (value.Mut m)) × (r.new ≡ value.Mut m) × AlikeMade m q
  reference_now q e =
      let y = renewed_reference w r.old r.new q r.renewed (some_is (sym r.stood ∙ e)) in
      (y.0, r.stands ∙ ap Some y.1, y.1, y.2)

  module _ (c : HasPlaces k) (d : HasPlaces z) where
    pub now : (q : Reference) → Among q (references gk (things_of k)) → Opposite gz (references gz (things_of z)) q × (changed q.reference ≡ true → (y : Opposite gz (references gz (things_of z)) q) × (changed y.reference.reference ≡ true))
    now q i = by (same_place q.at h)
      where
        b : OfBorrows gk q (things_of k)
        b = of_borrows gk q (things_of k) i

        stood : value_in gk q.at ≡ Some (value.Mut q.reference)
        stood = borrow_stands k c q.at q.reference b.among

        from : (m : MutRef) → m.holder ≡ q.reference.holder → m.first ≡ q.reference.first → m.object ≡ q.reference.object → value_in gz q.at ≡ Some (value.Mut m) → Opposite gz (references gz (things_of z)) q
        from m e first object f = record {
          reference = record { at = q.at; holder = holder_of gz q.at m.holder; reference = m };
          among = reference_there z q.at m f;
          at = refl;
          holder = ap (holder_of gz q.at) e ∙ holders_same q.at q.reference.holder ∙ sym b.holder;
          value = f;
          held = refl;
          first = first;
          object = object;
        }

        by : (q.at ≡ h) ⊎ (q.at ≡ h → ⊥) → Opposite gz (references gz (things_of z)) q × (changed q.reference ≡ true → (y : Opposite gz (references gz (things_of z)) q) × (changed y.reference.reference ≡ true))
        by (inl e) =
            let y = reference_now q.reference (ap (value_in gk) (sym e) ∙ stood) in
            let there : value_in gz q.at ≡ Some (value.Mut y.0) = ap (value_in gz) e ∙ y.1 in
            let opposite = from y.0 y.3.holder y.3.first y.3.object there in (opposite, λ f. (opposite, r.changed y.0 y.2))
        by (inr n) = let there : value_in gz q.at ≡ Some (value.Mut q.reference) = r.elsewhere q.at n ∙ stood in (from q.reference refl refl refl there, λ f. (from q.reference refl refl refl there, f))

    pub before : (q : Reference) → Among q (references gz (things_of z)) → Opposite gk (references gk (things_of k)) q × (changed q.reference ≡ true → (q.at ≡ h) ⊎ ((y : Opposite gk (references gk (things_of k)) q) × (changed y.reference.reference ≡ true)))
    before q i = by (same_place q.at h)
      where
        b : OfBorrows gz q (things_of z)
        b = of_borrows gz q (things_of z) i

        stands : value_in gz q.at ≡ Some (value.Mut q.reference)
        stands = borrow_stands z d q.at q.reference b.among

        from : (m : MutRef) → q.reference.holder ≡ m.holder → m.first ≡ q.reference.first → m.object ≡ q.reference.object → value_in gk q.at ≡ Some (value.Mut m) → Opposite gk (references gk (things_of k)) q
        from m e first object f = record {
          reference = record { at = q.at; holder = holder_of gk q.at m.holder; reference = m };
          among = reference_there k q.at m f;
          at = refl;
          holder = sym (holders_same q.at m.holder) ∙ ap (holder_of gz q.at) (sym e) ∙ sym b.holder;
          value = f;
          held = refl;
          first = first;
          object = object;
        }

        by : (q.at ≡ h) ⊎ (q.at ≡ h → ⊥) → Opposite gk (references gk (things_of k)) q × (changed q.reference ≡ true → (q.at ≡ h) ⊎ ((y : Opposite gk (references gk (things_of k)) q) × (changed y.reference.reference ≡ true)))
        by (inl e) =
            let is : r.new ≡ value.Mut q.reference = some_is (sym r.stands ∙ ap (value_in gz) (sym e) ∙ stands) in
            let y = reference_renewed w r.old r.new q.reference r.renewed is in
            (from y.0 (sym y.2.holder) y.2.first y.2.object (ap (value_in gk) e ∙ r.stood ∙ ap Some y.1), λ f. inl e)
        by (inr n) = let there : value_in gk q.at ≡ Some (value.Mut q.reference) = sym (r.elsewhere q.at n) ∙ stands in (from q.reference refl refl refl there, λ f. inr (from q.reference refl refl refl there, f))

    -- WHAT IS STALE

    pub still_stale : (l : Location) → IsStale (sight k) (Some l) → IsStale (sight z) (Some l)
    still_stale l (changed_above q i held ch) =
        let y = (now q i).1 ch in
        changed_above y.0.reference y.0.among (ap (is_held_at l) y.0.holder ∙ held) y.1
    still_stale l (stale_above q i held s) =
        let y = (now q i).0 in
        stale_above y.reference y.among (ap (is_held_at l) y.holder ∙ held) (subst (λ n. IsStale (sight z) (Some n)) (sym y.at) (still_stale q.at s))
    still_stale l (taken_above m) = taken_above (ap (is_among l) lent_all ∙ m)

    pub newly_stale : (l : Location) → IsStale (sight z) (Some l) → IsStale (sight k) (Some l) ⊎ Above gk l h
    newly_stale l (changed_above q i held ch) =
        ⊎_elim (λ (e : q.at ≡ h).
        let y = (before q i).0 in
        let holds : holder_of gk y.reference.at y.reference.reference.holder ≡ Some l = y.held ∙ y.holder ∙ held_at l q.holder held in
        inr (subst (Above gk l) (y.at ∙ e) (made_from y.reference.reference y.value holds)))
        (λ (y : (y : Opposite gk (references gk (things_of k)) q) × (changed y.reference.reference ≡ true)). inl (changed_above y.0.reference y.0.among (ap (is_held_at l) y.0.holder ∙ held) y.1)) ((before q i).1 ch)
    newly_stale l (stale_above q i held s) =
        let y = (before q i).0 in
        ⊎_elim (λ (t : IsStale (sight k) (Some q.at)). inl (stale_above y.reference y.among (ap (is_held_at l) y.holder ∙ held) (subst (λ n. IsStale (sight k) (Some n)) (sym y.at) t)))
        (λ (a : Above gk q.at h).
        let holds : holder_of gk y.reference.at y.reference.reference.holder ≡ Some l = y.held ∙ y.holder ∙ held_at l q.holder held in
        inr (climb gk l y.reference.at h y.reference.reference y.value holds (subst (λ n. Above gk n h) (sym y.at) a))) (newly_stale q.at s)
    newly_stale l (taken_above m) = inl (taken_above (ap (is_among l) (sym lent_all) ∙ m))
