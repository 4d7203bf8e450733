use Rattle.std.proofs.Common.{◌≡◌, suc, ◌+◌, ◌-◌, refl, sym, ap, ◌∙◌, arith}
use Rattle.fr_plain.specs.MachineThreads.{count_both}
use Rattle.fr_plain.specs.Threads.{release_by}
use Rattle.fr_acts.specs.MutexActs.{last_of}
use Rattle.fr_meaning.specs.Beside.{beside_of}
use Rattle.fr_meaning.specs.Threads.{threads_of, whole}
use Rattle.fr_meaning.proofs.ThreadLists.{length_threads, count_lengths}
use Rattle.fr_meaning.proofs.threads.let_go.Goals as goal

pub each-init : goal.each-init
each-init c =
    let xs = c.args.threads.now.items in
    let b = beside_of c.args.common.now in
    record {
      goes = λ fs output. (let many : (c.len.result + c.len-2.result) - 0 ≡ count_both b.mutexes (threads_of fs xs) = omega (arith, count_lengths b.mutexes (threads_of fs xs), length_threads fs xs, c.len.ensures, c.args.threads.now.ok, c.len-2.ensures.names) in ap (λ k. release_by k (whole fs xs b output) (last_of c.args.released)) many);
      numbers = refl;
      well = λ fs w. w;
      pairs = refl;
      parents = λ ps h. h;
    }

pub each-preserved : goal.each-preserved
each-preserved c =
    let o = c.release_one-last in
    record {
      goes = λ fs output. (
          let k = (c.len.result + c.len-2.result) - (c.each.gone + 1) in
          let more : suc k ≡ (c.len.result + c.len-2.result) - c.each.gone = omega (arith, c.each-test.true) in
          sym (o.ensures.goes fs output k) ∙ ap (λ n. release_by n (whole fs c.each.threads.items (beside_of c.each.common) output) (last_of c.each.last)) more ∙ c.each.invariant.goes fs output);
      numbers = o.ensures.numbers ∙ c.each.invariant.numbers;
      well = λ fs w. o.ensures.well fs (c.each.invariant.well fs w);
      pairs = o.ensures.pairs ∙ c.each.invariant.pairs;
      parents = λ ps h. o.ensures.parents ps (c.each.invariant.parents ps h);
    }
