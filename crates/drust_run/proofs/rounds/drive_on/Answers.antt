use Rattle.std.proofs.Common.{◌≡◌, ◌+◌, ◌-◌, suc, refl, sym, ap, ◌∙◌, arith}
use Rattle.drive_model.specs.Rounds.{rounds_from, round, balanced}
use Rattle.drust_run.specs.Drives.{run_of}
use Rattle.drust_run.proofs.StartLemmas.{goes_on, done_stays, next_round}
use Rattle.drust_run.proofs.rounds.drive_on.Goals as goal

pub rounds-init : goal.rounds-init
rounds-init g c =
    let all : c.args.turns - 0 ≡ c.args.turns = omega arith in
    let first : 0 + 1 ≡ 1 = omega arith in
    record {
      way = c.requires.way;
      counted = c.requires.counted;
      program = refl;
      within = omega arith;
      same = ap (λ k. rounds_from k (0 + 1) (run_of c.args.start)) all ∙ ap (λ n. rounds_from c.args.turns n (run_of c.args.start)) first;
    }

pub returns-then-is_done-clause-run : goal.returns-then-is_done-clause-run
returns-then-is_done-clause-run g c =
    let r = run_of c.rounds.drive in
    sym c.rounds.invariant.same ∙ done_stays (c.args.turns - c.rounds.before) (c.rounds.before + 1) r (sym c.is_done.ensures ∙ c.if-is_done.true)

pub returns-then-is_done-clause-way : goal.returns-then-is_done-clause-way
returns-then-is_done-clause-way g c = c.rounds.invariant.way

pub returns-then-is_done-clause-program : goal.returns-then-is_done-clause-program
returns-then-is_done-clause-program g c = c.rounds.invariant.program

pub round-requires-clause-way : goal.round-requires-clause-way
round-requires-clause-way g c κs within = c.rounds.invariant.way

pub round-requires-clause-counted : goal.round-requires-clause-counted
round-requires-clause-counted g c κs within = c.rounds.invariant.counted

pub even_out-requires-clause-way : goal.even_out-requires-clause-way
even_out-requires-clause-way g c =
    let r = run_of c.rounds.drive in
    goes_on (round r) _ (c.rounds_go_on.ensures.rounds c.requires.each r c.rounds.invariant.way) c.in_ok-drive.ensures.round

pub rounds-preserved : goal.rounds-preserved
rounds-preserved g c =
    let r = run_of c.rounds.drive in
    let inv = c.rounds.invariant in
    let x = run_of c.in_ok-drive.drive in
    let y = run_of c.in_ok-drive-2.drive in
    let n = c.rounds.before + 1 in
    let k = c.args.turns - n in
    let way = goes_on (round r) x (c.rounds_go_on.ensures.rounds c.requires.each r inv.way) c.in_ok-drive.ensures.round in
    let one : c.args.turns - c.rounds.before ≡ suc k = omega (arith, c.rounds-test.true) in
    record {
      way = goes_on (balanced n x) y (c.rounds_go_on.ensures.balances c.requires.each n x way) c.in_ok-drive-2.ensures.balanced;
      counted = c.in_ok-drive-2.ensures.counted;
      program = c.in_ok-drive-2.ensures.program ∙ c.in_ok-drive.ensures.program ∙ inv.program;
      within = omega (arith, c.rounds-test.true);
      same =
          sym (next_round k n r x y (sym c.is_done.ensures ∙ c.if-is_done.false) c.in_ok-drive.ensures.round c.in_ok-drive-2.ensures.balanced) ∙ ap (λ i. rounds_from i n r) (sym one) ∙ inv.same;
    }

pub returns-clause-run : goal.returns-clause-run
returns-clause-run g c =
    let r = run_of c.rounds.drive in
    let none : c.args.turns - c.rounds.before ≡ 0 = omega (arith, c.rounds-test.false) in
    sym c.rounds.invariant.same ∙ ap (λ k. rounds_from k (c.rounds.before + 1) r) none

pub returns-clause-way : goal.returns-clause-way
returns-clause-way g c = c.rounds.invariant.way

pub returns-clause-program : goal.returns-clause-program
returns-clause-program g c = c.rounds.invariant.program
