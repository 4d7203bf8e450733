use Rattle.std.proofs.Common.{◌≡◌, ◌++◌, ◌∙◌, ℕ, List, append_assoc, ap, string_bytes}
use Rattle.std.specs.Prelude.{sum}
use Rattle.coloured_heap.specs.Figures.{by_kind, kinds}
use Rattle.coloured_heap.specs.Sends.{messages}
use Rattle.tracer.specs.Counting.{tally_lines}
use Rattle.tracer.specs.ReportText.{count_lines}
use Rattle.coloured_heap.proofs.Sums.{all_messages}
use Rattle.tracer.proofs.report.add_figures.Goals as goal

pub returns : goal.returns
returns c =
    let es = c.args.journal.now.items in
    let text = string_bytes c.args.text.now in
    let tally = c.in_ok-tally.tally in
    let counted : tally ≡ by_kind es = c.in_ok-tally.ensures.counts in
    let sent : c.total.result ≡ messages es = c.total.ensures.sum ∙ ap (λ (ns : List ℕ). sum ns) counted ∙ all_messages es in
    c.in_ok-add_kinds.ensures ∙ ap (λ (bytes : List ℕ). bytes ++ tally_lines tally kinds) (c.in_ok-add_counts.ensures sent)
    ∙ append_assoc text (count_lines es) (tally_lines tally kinds) ∙ ap (λ (ns : List ℕ). text ++ (count_lines es ++ tally_lines ns kinds)) counted
