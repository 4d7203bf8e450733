-- Which pointers are the only ones to their objects that stand, aren't stale and aren't above them.
use Rattle.std.proofs.Common.{◌≡◌, ◌⊎◌, inl, inr, ⊎_elim, true, Some, None, sym, ap, subst, ◌∙◌}
use Rattle.law_words_paths.specs.Below.mut_borrow.declared.mutable.MutRef.{MutRef}
use Rattle.law_words_paths.specs.Below.thread_state.declared.value.Value.TheVariants as value
use Rattle.law_words_paths.specs.Below.server_model.Servers.{Cluster}
use Rattle.law_words_paths.specs.Below.coherent_memory.Things.{Location, things_of}
use Rattle.law_words_paths.specs.Below.coherent_memory.Follow.{value_in, leads}
use Rattle.law_words_paths.specs.Below.coherent_memory.Stale.{Reference, holder_of, is_held_at}
use Rattle.law_words_paths.specs.Below.coherent_memory.Sight.{Pointer, taken_pointers, sight}
use Rattle.law_words_paths.specs.Below.coherent_memory.Placing.{standing_in}
use Rattle.law_words_paths.specs.Below.coherent_memory.Words.{IsStale}
use Rattle.law_words_paths.specs.Below.coherent_memory.Dirty.{IsAlone, DirtyAlone}
use Rattle.law_words_paths.specs.paths.Pointing.{Above}
use Rattle.law_words_paths.proofs.paths.Sole.{some_is}
use Rattle.law_words_paths.proofs.paths.Origins.{among_first}
use Rattle.law_words_paths.proofs.paths.Contained.{reference_there}
use Rattle.law_words_paths.proofs.paths.FreshPaths.{held_at}
use Rattle.law_words_paths.specs.words.Reworded.{HasPlaces}
use Rattle.law_words_paths.specs.words.Soles.{IsOnly, AreOnly}
use Rattle.law_words_paths.proofs.words.Standing.{tells, told_standing}

module _ (k : Cluster) (h : Location) (r : MutRef) (c : HasPlaces k) (dirty : DirtyAlone (sight k)) (e : value_in (sight k).ground h ≡ Some (value.Mut r)) (d : r.dirty ≡ true) (fresh : IsStale (sight k) (Some h) → ⊥) where
  abbrev q : Reference
  q = record { at = h; holder = holder_of (sight k).ground h r.holder; reference = r }

  alone : IsAlone (sight k) q
  alone = dirty q (reference_there k h r e) d fresh

  stale_or_it : (p : Pointer) (l : Location) → p.at ≡ Some l → IsStale (sight k) p.at ⊎ (is_held_at h p.at ≡ true) → (l ≡ h) ⊎ (Above (sight k).ground l h ⊎ IsStale (sight k) (Some l))
  stale_or_it p l f (inl s) = inr (inr (subst (λ n. IsStale (sight k) n) f s))
  stale_or_it p l f (inr s) = inl (some_is (sym f ∙ held_at h p.at s))

  nowhere : (p : Pointer) → p.at ≡ None → IsStale (sight k) p.at ⊎ (is_held_at h p.at ≡ true) → ⊥
  nowhere p f (inl s) = subst (λ n. IsStale (sight k) n) f s
  nowhere p f (inr s) = let t : None ≡ Some h = sym f ∙ held_at h p.at s in absurd cc

  only : IsOnly k h r.object
  only = record {
    to = λ t. ap (leads t) e;
    others = λ p l m s f. (let t = tells k c p l m f in
        stale_or_it p l f (alone.sole p (among_first p (standing_in (things_of k)) (taken_pointers k.code (sight k).ground (sight k).ground.threads) (told_standing k l t.value p t.stands t.pointer)) s));
    placed = λ p m s f. nowhere p f (alone.sole p m s);
    unmade = alone.unlent;
  }

pub are_only : AreOnly
are_only = record {
  soles = λ k h o u. record { to = u.to; others = λ p l m s f. ⊎_elim (λ (x : l ≡ h). inl x) (λ (a : Above (sight k).ground l h). inr (inl a)) (u.above p l m s f); placed = u.placed; unmade = u.unmade };
  dirty = λ k h r c dirty e d fresh. only k h r c dirty e d fresh;
}
