-- A server's next object: its address is vacant, and its word is new and leads there.
use Rattle.std.proofs.Common.{◌≡◌, ℕ, ◌+◌, ◌^◌, ◌<◌, ◌==◌, true, false, if◌then◌else◌, List, [], ◌∷◌, ◌++◌, Some, None, sym, subst, ◌∙◌, arith}
use Rattle.std.specs.Prelude.{slice_get, length}
use Rattle.std.specs.List.{AllByRecursion}
use Rattle.std.proofs.lemmas.Bool.Decides.{nat_tests}
use Rattle.law_counts_things.proofs.Below.fr_typing.PlaceLemmas.{eq_cases}
use Rattle.law_counts_things.specs.Below.colour_retire.Colours.{picked}
use Rattle.law_counts_things.specs.Below.owner_box.View.{PartitionState}
use Rattle.law_counts_things.specs.Below.owner_box.Partition.{new_word}
use Rattle.law_counts_things.specs.Below.server_model.Servers.{Server, Cluster, server_at}
use Rattle.law_counts_things.specs.Below.server_model.NewWords.{can_grow}
use Rattle.law_counts_things.specs.Below.coherent_memory.Things.{servers_things, things_of}
use Rattle.law_counts_things.specs.Below.coherent_memory.Sight.{Sight, issued, sight}
use Rattle.law_counts_things.specs.Below.coherent_memory.Walking.{sum_threads}
use Rattle.law_counts_things.specs.Below.coherent_memory.Naming.{servers_wrong, pinned_parcel}
use Rattle.law_counts_things.specs.Below.coherent_memory.Words.{LeadsTo}
use Rattle.law_counts_things.specs.Below.coherent_memory.Coherent.{IsSound}
use Rattle.law_counts_things.specs.Below.law_counts_sums.Laws.{FewEvents}
use Rattle.law_counts_things.specs.Below.law_counts_sums.Sums.{Sums}
use Rattle.law_counts_things.proofs.Below.law_counts_sums.Trades.{tot-append}
use Rattle.law_counts_things.proofs.Below.law_counts_sums.RulesKeep.{sums_kept}
use Rattle.law_counts_things.proofs.Below.law_counts_sums.Askers.{other_none}
use Rattle.law_counts_things.proofs.Below.law_counts_sums.Bags.{all_standing, rest_things, server_same}
use Rattle.law_counts_things.proofs.Below.law_counts_sums.Objects.{free_place}
use Rattle.law_counts_things.proofs.Below.law_counts_sums.Events.{others_of, tot-server}
use Rattle.law_counts_things.proofs.Below.law_counts_sums.Sound.{sound_has_sums}
use Rattle.law_counts_things.proofs.Below.law_counts_sums.KnownSound.{server_known}
use Rattle.law_words_values.proofs.made.Partition.{word_leads}
use Rattle.law_words_values.proofs.made.NewIssue.{not_issued}

-- a server's partition has its number
own_partition : (q : Sight) (m n : ℕ) (ss : List Server) (s : Server) → servers_wrong q m ss ≡ 0 → server_at ss n ≡ Some s → s.rest.partition.server ≡ s.rest.number
own_partition q m n [] s z h = absurd (cc h)
own_partition q m n (x ∷ ss) s z h =
    let numbered : x.rest.number ≡ m = grind (arith, nat_tests, other_none (x.rest.number == m) (omega (arith, z))) in
    let placed : x.rest.partition.server ≡ m = grind (arith, nat_tests, other_none (x.rest.partition.server == m) (omega (arith, z))) in
    eq_cases (λ b. (if b then Some x else server_at ss n) ≡ Some s → s.rest.partition.server ≡ s.rest.number) x.rest.number n
    (λ e d. let same : x ≡ s = cc in subst (λ (y : Server). y.rest.partition.server ≡ y.rest.number) same (placed ∙ sym numbered))
    (λ ne d. own_partition q (m + 1) n ss s (omega (arith, z)) d) h

-- the word of the next object leads to it, and wasn't issued
pub record NextWord (k : Cluster) (s : Server) : Type 0 where
  pub leads : LeadsTo s.rest.number (picked s.rest.partition.free (length s.rest.partition.cells)).0 (new_word s.rest.partition)
  pub fresh : issued (sight k) (new_word s.rest.partition) ≡ false

module _ (k : Cluster) (sound : IsSound k) (s : Server) (here : server_at k.servers s.rest.number ≡ Some s) where
  abbrev n : ℕ
  n = s.rest.number

  abbrev p : PartitionState
  p = s.rest.partition

  -- a free address has no cell
  pub vacant_there : (pair : ℕ × ℕ) (rest : List (ℕ × ℕ)) → p.free ≡ pair ∷ rest → slice_get p.cells pair.0 ≡ Some None
  vacant_there =
      let w = all_standing n s.threads ++ servers_things (others_of k.servers n) in
      let sums : Sums (rest_things n s.events s.rest ++ w) = sums_kept.same (things_of k) (rest_things n s.events s.rest ++ w)
      (λ f. omega (
        arith,
        (tot-server f k.servers n s s here).0,
        server_same s f,
        tot-append f (all_standing n s.threads) (rest_things n s.events s.rest),
        tot-append f (rest_things n s.events s.rest) w,
        tot-append f (all_standing n s.threads) (servers_things (others_of k.servers n)),
      )) (sound_has_sums k sound) in
      free_place n s.events s.rest w (sums_kept.placed _ sums)

  at_most : (xs : List (ℕ × ℕ)) → length p.cells < 2 ^ 40 → AllByRecursion (λ (x : ℕ × ℕ). x.0 < 2 ^ 40) xs → (picked xs (length p.cells)).0 < 2 ^ 40
  at_most [] l a = l
  at_most (x ∷ xs) l a = a.0

  pub next_word_is : FewEvents k → can_grow p ≡ true → NextWord k s
  next_word_is few grows =
      let known = server_known k sound few n s here in
      let part = known.partition in
      let parts : servers_wrong (sight k) 0 k.servers + sum_threads (sight k) pinned_parcel ≡ 0 = sound.parts.parts_are_typed in
      let own = own_partition (sight k) 0 n k.servers s (omega (arith, parts)) here in
      let short : length p.cells < 2 ^ 40 = grind (arith, nat_tests, grows) in
      let place = picked p.free (length p.cells) in
      let all = word_leads place.1 p.server place.0 part.small (at_most p.free short part.addresses) in
      record { leads = record { server = all.0 ∙ own; address = all.1 }; fresh = not_issued k sound s here (new_word p) (all.0 ∙ own) all.1 all.2 }
