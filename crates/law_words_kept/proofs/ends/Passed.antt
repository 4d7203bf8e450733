-- What a write has passed isn't stale, in every cluster with paths where threads pass hops in walks alone and no more than they have.
use Rattle.std.proofs.Common.{◌≡◌, inl, inr, ℕ, zero, suc, ◌<◌, ◌≤◌, nat_le, ◌==◌, ◌&&◌, not, Bool, true, false, List, [], ◌∷◌, Option, Some, None, refl, sym, ap, subst, arith}
use Rattle.std.proofs.lemmas.Bool.Decides.{nat_tests}
use Rattle.law_words_kept.specs.Below.fr_base.declared.place.Lval.{Lval}
use Rattle.law_words_kept.specs.Below.heap_partition.declared.value.Owned.TheVariants as owned
use Rattle.law_words_kept.specs.Below.thread_state.View.{is_over}
use Rattle.law_words_kept.specs.Below.thread_state.declared.phase.Phase.{Phase}
use Rattle.law_words_kept.specs.Below.thread_state.declared.phase.Phase.TheVariants as phase
use Rattle.law_words_kept.specs.Below.thread_state.declared.value.Value.{Value}
use Rattle.law_words_kept.specs.Below.thread_state.declared.value.Value.TheVariants as value
use Rattle.law_words_kept.specs.Below.server_model.Servers.{Cluster}
use Rattle.law_words_kept.specs.Below.coherent_memory.Names.{tot, one, other, Among}
use Rattle.law_words_kept.specs.Below.coherent_memory.Things.{Location}
use Rattle.law_words_kept.specs.Below.coherent_memory.Follow.{Standing, Ground, value_behind, locate}
use Rattle.law_words_kept.specs.Below.coherent_memory.Sight.{sight, is_stale}
use Rattle.law_words_kept.specs.Below.coherent_memory.Walking.{over_hops, over_place, over_passed, stale_hop, in_walk, early, hop_count, too_far, path}
use Rattle.law_words_kept.specs.Below.coherent_memory.Words.{IsStale}
use Rattle.law_words_kept.specs.Below.coherent_memory.Paths.{written_place}
use Rattle.law_words_kept.proofs.Below.coherent_memory.Words.{not_told}
use Rattle.law_words_kept.specs.Below.law_words_paths.paths.HeapStore.{HasPaths}
use Rattle.law_words_kept.proofs.Below.law_words_paths.paths.Shown.{none_else}
use Rattle.law_words_kept.proofs.Below.law_words_paths.paths.Forms.{none_of}
use Rattle.law_words_kept.specs.ends.Ending.{PassedFollows}
use Rattle.law_words_kept.proofs.ends.Fresh.{writes_are_fresh}

-- a sum of nothing
tot_none : {A : Type 0} (f : A → ℕ) (xs : List A) → ((x : A) → Among x xs → f x ≡ 0) → tot f xs ≡ 0
tot_none f [] h = refl
tot_none f (x ∷ xs) h = let a = h x (inl refl) in let b = tot_none f xs (λ y i. h y (inr i)) in omega (arith, a, b)

not_zero : (n : ℕ) → one (not (n == 0)) ≡ 0 → n ≡ 0
not_zero n e = by (n == 0) refl e
  where
    by : (b : Bool) → (n == 0) ≡ b → one (not b) ≡ 0 → n ≡ 0
    by true q f = grind (arith, nat_tests, q)
    by false q f = absurd cc

-- outside a walk nothing is passed
none_passed : (x : Standing) → early x ≡ 0 → is_over x.thread.phase ≡ true → x.thread.passed ≡ 0
none_passed x z over = by x.thread.phase over z
  where
    by : (p : Phase) → is_over p ≡ true → one (not (in_walk p) && not (x.thread.passed == 0)) ≡ 0 → x.thread.passed ≡ 0
    by phase.Over e f = not_zero x.thread.passed f
    by _ e f = absurd cc

no_more : (n m : ℕ) → other (nat_le n m) ≡ 0 → n ≤ m
no_more n m e = let h = none_else (nat_le n m) e in grind (arith, nat_tests, h)

module _ (k : Cluster) (c : HasPaths k) where
  abbrev ground : Ground
  ground = (sight k).ground

  no_stale_hop : (r : ℕ) (o : Option Location) → ((l : Location) → o ≡ Some l → IsStale (sight k) (Some l) → ⊥) → stale_hop (sight k) r o (value_behind ground o) ≡ 0
  no_stale_hop r None f = refl
  no_stale_hop r (Some l) f = by (value_behind ground (Some l)) (ap one (not_told k (Some l) (f l refl)))
    where
      by : (v : Option Value) → one (is_stale (sight k).stale (Some l)) ≡ 0 → stale_hop (sight k) r (Some l) v ≡ 0
      by (Some (value.Own (owned.Box p))) e = e
      by (Some (value.Mut q)) e = e
      by _ e = refl

  module _ (x : Standing) (among : Among x ground.threads) (walks : early x ≡ 0) (within : too_far (sight k) x ≡ 0) where
    hops_none : (w : Lval) → ((d : ℕ) (l : Location) → d < w.depth → locate ground x.thread.number w.slot d ≡ Some l → IsStale (sight k) (Some l) → ⊥) → (n : ℕ) → n ≤ w.depth → over_hops ground x.thread.number w.slot (stale_hop (sight k) x.server) n ≡ 0
    hops_none w f zero le = refl
    hops_none w f (suc n) le =
        let a = no_stale_hop x.server (locate ground x.thread.number w.slot n) (λ l at. f n l (omega (arith, le)) at) in
        let b = hops_none w f n (omega (arith, le)) in
        omega (arith, a, b)

    thread_none : over_passed (sight k) (stale_hop (sight k)) x ≡ 0
    thread_none = by (is_over x.thread.phase) refl (written_place (path (sight k) x)) refl within
      where
        by : (b : Bool) → is_over x.thread.phase ≡ b → (o : Option Lval) → written_place (path (sight k) x) ≡ o → other (nat_le x.thread.passed (hop_count o)) ≡ 0 → over_place ground x.thread.number x.thread.passed (stale_hop (sight k) x.server) o ≡ 0
        by b over None at few = refl
        by true over (Some w) at few = subst (λ n. over_hops ground x.thread.number w.slot (stale_hop (sight k) x.server) n ≡ 0) (sym (none_passed x walks over)) refl
        by false over (Some w) at few = hops_none w (λ d l lt there. writes_are_fresh k c x w d l (record { among = among; going = over }) at lt there) x.thread.passed (no_more x.thread.passed w.depth few)

pub passed_follows : PassedFollows
passed_follows k c walks within =
    tot_none (over_passed (sight k) (stale_hop (sight k))) (sight k).ground.threads (λ x among. thread_none k c x among (none_of early x (sight k).ground.threads walks among) (none_of (too_far (sight k)) x (sight k).ground.threads within among))
