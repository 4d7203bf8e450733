-- The words of objects go on where one changes: over two states whose pointers, stale places and cells are the same but for that.
use Rattle.std.proofs.Common.{◌≡◌, ◌⊎◌, inl, inr, ⊎_elim, ℕ, Bool, if◌then◌else◌, Option, Some, None, refl, sym, ap, subst, ◌∙◌}
use Rattle.law_words_paths.specs.Below.fr_base.declared.name.ObjNo.{ObjNo}
use Rattle.law_words_paths.proofs.Below.fr_store.Keys.{object_cases}
use Rattle.law_words_paths.specs.Below.heap_partition.declared.value.Cell.{Cell}
use Rattle.law_words_paths.specs.Below.coherent_memory.Names.{Among, same_object}
use Rattle.law_words_paths.specs.Below.coherent_memory.Things.{Location, lies}
use Rattle.law_words_paths.specs.Below.coherent_memory.Sight.{Sight, Pointer}
use Rattle.law_words_paths.specs.Below.coherent_memory.Words.{all_pointers, IsStale, Fresh, LeadsTo, HasWords}
use Rattle.law_words_paths.proofs.Below.coherent_memory.Words.{itself}
use Rattle.law_words_paths.specs.paths.Pointing.{Above}
use Rattle.law_words_paths.specs.words.WordsAfter.{WordsAfter}

abbrev pub pointer_to : Location → ℕ → ObjNo → Pointer
pointer_to h w o = record { at = Some h; word = w; object = o }

-- an object is another one or the same
pub same_or_not : (p o : ObjNo) → (p ≡ o) ⊎ (p ≡ o → ⊥)
same_or_not p o = object_cases (λ b. (p ≡ o) ⊎ (p ≡ o → ⊥)) p o (λ e. inl e) (λ n. inr n)

pub record StoodElsewhere (s : Sight) (h : Location) (p : Pointer) : Type 0 where
  pub among : Among p (all_pointers s)
  pub at : p.at ≡ Some h → ⊥

pub record StandsAt (p : Pointer) (l : Location) : Type 0 where
  pub at : p.at ≡ Some l

pub record Lay (s : Sight) (r a : ℕ) (o : ObjNo) : Type 0 where
  pub cell : Cell
  pub among : Among (lies r a cell) s.things
  pub object : cell.object ≡ o

-- the pointer at h gets the word w of its object; whoever else points to that is stale
pub record Change (s z : Sight) (h : Location) (o : ObjNo) (w : ℕ) : Type 0 where
  pub here : Among (pointer_to h w o) (all_pointers z)
  pub stood : (p : Pointer) → Among p (all_pointers z) → (p ≡ pointer_to h w o) ⊎ StoodElsewhere s h p
  pub stays : (p : Pointer) → Among p (all_pointers s) → (p.object ≡ o → ⊥) → Among p (all_pointers z)
  pub stale : (l : Location) → IsStale s (Some l) → IsStale z (Some l)
  pub newly : (l : Location) → IsStale z (Some l) → IsStale s (Some l) ⊎ Above s.ground l h
  pub leads : (r a : ℕ) (c : Cell) → Among (lies r a c) z.things → c.object ≡ o → LeadsTo r a w
  pub lay : (r a : ℕ) (c : Cell) → Among (lies r a c) z.things → (c.object ≡ o → ⊥) → Lay s r a c.object
  pub only : (p : Pointer) → Among p (all_pointers z) → p.object ≡ o → (p.at ≡ Some h) ⊎ IsStale z p.at
  pub above_object : (p : Pointer) (l : Location) → Among p (all_pointers s) → p.at ≡ Some l → Above s.ground l h → p.object ≡ o
  pub fresh : IsStale z (Some h) → ⊥

module _ (s z : Sight) (h : Location) (o : ObjNo) (w : ℕ) (c : Change s z h o w) (b : HasWords s) where
  abbrev word : ObjNo → ℕ
  word p = if same_object p o then w else b.word p

  of_it : (p : ObjNo) → p ≡ o → word p ≡ w
  of_it p e = ap (λ (q : Bool). if q then w else b.word p) (itself p o e)

  of_other : (p : ObjNo) → (p ≡ o → ⊥) → word p ≡ b.word p
  of_other p n = object_cases (λ q. (if q then w else b.word p) ≡ b.word p) p o (λ e. absurd (n e)) (λ m. refl)

  still : (l : Option Location) → IsStale s l → IsStale z l
  still None t = t
  still (Some l) t = c.stale l t

  elsewhere : (p : Pointer) → Among p (all_pointers z) → StoodElsewhere s h p → (p.object ≡ o) ⊎ (p.object ≡ o → ⊥) → IsStale z p.at ⊎ (p.word ≡ word p.object)
  elsewhere p m y (inl e) =
      ⊎_elim (λ (q : p.at ≡ Some h). absurd (y.at q)) (λ (q : IsStale z p.at). inl q) (c.only p m e)
  elsewhere p m y (inr n) = ⊎_elim (λ (t : IsStale s p.at). inl (still p.at t)) (λ (e : p.word ≡ b.word p.object). inr (e ∙ sym (of_other p.object n))) (b.same p y.among)

  same : (p : Pointer) → Among p (all_pointers z) → IsStale z p.at ⊎ (p.word ≡ word p.object)
  same p m =
      ⊎_elim (λ (e : p ≡ pointer_to h w o). inr (ap (λ (q : Pointer). q.word) e ∙ sym (of_it p.object (ap (λ (q : Pointer). q.object) e))))
      (λ (y : StoodElsewhere s h p). elsewhere p m y (same_or_not p.object o)) (c.stood p m)

  -- a pointer to another object that wasn't stale isn't
  not_newly : (p : Pointer) → Among p (all_pointers s) → (p.object ≡ o → ⊥) → (IsStale s p.at → ⊥) → (l : Option Location) → p.at ≡ l → IsStale z l → ⊥
  not_newly p m n f None e t = t
  not_newly p m n f (Some l) e t = ⊎_elim (λ (q : IsStale s (Some l)). f (subst (λ j. IsStale s j) (sym e) q)) (λ (q : Above s.ground l h). n (c.above_object p l m e q)) (c.newly l t)

  other_fresh : (p : ObjNo) → (p ≡ o → ⊥) → Fresh s p → Fresh z p
  other_fresh p n f =
      let m : f.pointer.object ≡ o → ⊥ = λ e. n (sym f.object ∙ e) in
      record { pointer = f.pointer; among = c.stays f.pointer f.among m; object = f.object; fresh = not_newly f.pointer f.among m f.fresh f.pointer.at refl }

  live : (r a : ℕ) (d : Cell) → Among (lies r a d) z.things → Fresh z d.object
  live r a d m = by (same_or_not d.object o)
    where
      by : (d.object ≡ o) ⊎ (d.object ≡ o → ⊥) → Fresh z d.object
      by (inl e) = record { pointer = pointer_to h w o; among = c.here; object = sym e; fresh = c.fresh }
      by (inr n) = let y = c.lay r a d m n in other_fresh d.object n (subst (λ q. Fresh s q) y.object (b.live r a y.cell y.among))

  home : (r a : ℕ) (d : Cell) → Among (lies r a d) z.things → LeadsTo r a (word d.object)
  home r a d m = by (same_or_not d.object o)
    where
      by : (d.object ≡ o) ⊎ (d.object ≡ o → ⊥) → LeadsTo r a (word d.object)
      by (inl e) = subst (λ q. LeadsTo r a q) (sym (of_it d.object e)) (c.leads r a d m e)
      by (inr n) = let y = c.lay r a d m n in subst (λ q. LeadsTo r a q) (ap b.word y.object ∙ sym (of_other d.object n)) (b.home r a y.cell y.among)

  pub go_on : WordsAfter s z o w b
  go_on = record { after = record { word = word; same = same; live = live; home = home }; new = of_it o refl; others = of_other }
