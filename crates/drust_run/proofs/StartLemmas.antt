-- The start of a run, and one round more.
use Rattle.std.proofs.Common.{◌≡◌, ℕ, zero, suc, ◌+◌, true, false, if◌then◌else◌, List, [], ◌∷◌, Option, Some, refl, sym, ap, subst, ◌∙◌, arith}
use Rattle.rand_pcg.specs.Lcg.{Lcg}
use Rattle.fr_base.specs.declared.instruction.Instr.{Instr}
use Rattle.fr_base.specs.declared.settings.Options.{Options}
use Rattle.journal.specs.View.{EntryView}
use Rattle.server_model.specs.Servers.{Server, Cluster, empty_servers, with_main, start_of}
use Rattle.server_model.specs.Work.{then_some}
use Rattle.drive_model.specs.Rounds.{Run, generators_from, run_start, round, balanced, is_done, rounds_from}
use Rattle.cluster_core.specs.Views.{events_in}
use Rattle.law_runs_rounds.specs.rounds.UnderWay.{IsUnderWay, GoesOn}

empty_counts : (o : Options) (s n : ℕ) → events_in (empty_servers o s n) ≡ 0
empty_counts o s zero = refl
empty_counts o s (suc n) = let rest = empty_counts o (s + 1) n in omega (arith, rest)

main_counts : (ss : List Server) → events_in (with_main ss) ≡ events_in ss
main_counts [] = refl
main_counts (s ∷ ss) = refl

-- no event was done at the start
pub start_counts : (code : List Instr) (o : Options) → events_in (start_of code o).servers ≡ 0
start_counts code o = main_counts (empty_servers o 0 o.servers) ∙ empty_counts o 0 o.servers

pub start_is : (k : Cluster) (gs : List Lcg) (journal : List EntryView) (o : Options) → k ≡ start_of k.code o → gs ≡ generators_from o.choice 0 o.servers → journal ≡ []
    → record { cluster = k; generators = gs; journal = journal } ≡ run_start k.code o
start_is k gs journal o cluster generators none =
    ap (λ z. record { cluster = z; generators = gs; journal = journal }) cluster
    ∙ ap (λ z. record { cluster = start_of k.code o; generators = z; journal = journal }) generators
    ∙ ap (λ z. record { cluster = start_of k.code o; generators = generators_from o.choice 0 o.servers; journal = z }) none

-- what goes on is under way
pub goes_on : (o : Option Run) (x : Run) → GoesOn o → o ≡ Some x → IsUnderWay x
goes_on o x g e =
    let same : Some g.run ≡ Some x = sym g.is ∙ e in
    let is : g.run ≡ x = cc in
    subst IsUnderWay is g.under_way

-- a run that is done stays
pub done_stays : (k n : ℕ) (r : Run) → is_done r ≡ true → rounds_from k n r ≡ Some r
done_stays zero n r d = refl
done_stays (suc k) n r d = ap (λ b. if b then Some r else then_some (round r) (λ x. then_some (balanced n x) (rounds_from k (n + 1)))) d

-- one that isn't goes on with a round and a balance
pub next_round : (k n : ℕ) (r x y : Run) → is_done r ≡ false → round r ≡ Some x → balanced n x ≡ Some y → rounds_from (suc k) n r ≡ rounds_from k (n + 1) y
next_round k n r x y d a b =
    ap (λ b. if b then Some r else then_some (round r) (λ x. then_some (balanced n x) (rounds_from k (n + 1)))) d
    ∙ ap (λ o. then_some o (λ x. then_some (balanced n x) (rounds_from k (n + 1)))) a
    ∙ ap (λ o. then_some o (rounds_from k (n + 1))) b
