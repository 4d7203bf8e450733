-- A program has one run under its options, whatever room its code's lists have, and one text tells of it.
use Rattle.std.proofs.Common.{◌≡◌, ℕ, Bool, ◌++◌, List, length, sym, subst, ap, ap₂, ◌∙◌}
use Rattle.fr_base.specs.declared.settings.Options.{Options}
use Rattle.fr_base.specs.declared.step.Ending.{Ending}
use Rattle.fr_base.specs.declared.step.Wait.{Wait}
use Rattle.fr_grammar.proofs.Programs.{source_once}
use Rattle.journal.specs.Journals.{order}
use Rattle.journal.specs.OrderText.{IsOrder}
use Rattle.journal.specs.View.{EntryView}
use Rattle.journal.proofs.OneReading.{one_lines}
use Rattle.journal.proofs.WritingLemmas.{one_text}
use Rattle.tracer.specs.ReportText.{IsReport, report, summary}
use Rattle.law_length_programs.specs.Below.law_runs_right.Below.fr_terms.Terms.{Term}
use Rattle.law_length_programs.specs.Below.law_runs_right.Below.drive_model.Ending.{ending, waits, waits_in}
use Rattle.law_length_programs.specs.Below.law_runs_right.Below.server_model.Servers.{Server}
use Rattle.law_runs_rounds.proofs.room.Rounds.{runs_one}
use Rattle.drust_run.specs.declared.ran.Ran.{Ran}
use Rattle.drust_run.specs.Runs.{ended}
use Rattle.source_front.specs.Typed.{IsTyped}
use Rattle.server_answers.specs.Answers.{IsReportOf, IsSummaryOf, trace_part}
use Rattle.server_answers.specs.Runs.{IsRunOf}

-- two runs that left the same servers and the same journal, and ended alike
pub record AreAlike (q r : Ran) : Type 0 where
  pub servers : q.cluster.state.servers ≡ r.cluster.state.servers
  pub entries : q.journal.items ≡ r.journal.items
  pub ends : q.ending ≡ r.ending

-- those of one program under the same options are
runs_alike : (t : Term) (o : Options) (q r : Ran) → IsRunOf t o q → IsRunOf t o r → AreAlike q r
runs_alike t o q r h g =
    let one = runs_one h.code g.code o h.run g.run (h.stands ∙ sym g.stands) h.is g.is in
    let servers : q.cluster.state.servers ≡ r.cluster.state.servers = sym (ap (λ k. k.servers) h.cluster) ∙ one.servers ∙ ap (λ k. k.servers) g.cluster in
    record {
      servers = servers;
      entries = sym h.entries ∙ one.journal ∙ g.entries;
      ends = h.ends ∙ ap (λ (ss : List Server). ended (ending (record q.cluster.state { servers = ss }))) servers ∙ sym g.ends;
    }

-- a source has one program
pub one_program : (bytes : List ℕ) (t u : Term) → IsTyped bytes t → IsTyped bytes u → t ≡ u
one_program bytes t u a b = source_once bytes t u a.source b.source

-- and so are those of a source's program
pub sources_alike : (bytes : List ℕ) (t u : Term) (o : Options) (q r : Ran) → IsTyped bytes t → IsTyped bytes u → IsRunOf t o q → IsRunOf u o r → AreAlike q r
sources_alike bytes t u o q r a b h g = runs_alike t o q r h (subst (λ (x : Term). IsRunOf x o r) (one_program bytes u t b a) g)

-- they wait for the same
wait_alike : (q r : Ran) → AreAlike q r → waits q.cluster.state ≡ waits r.cluster.state
wait_alike q r same = ap waits_in same.servers

-- a run has one report
one_report : (e : Ending) (es : List EntryView) (ws : List (ℕ × Wait)) (x y : List ℕ) → IsReport e es ws x → IsReport e es ws y → x ≡ y
one_report e es ws x y h g =
    let written = one_text (order es) h.written g.written h.spells g.spells in
    let lines = one_lines 0 g.written h.spells.lines g.spells.lines (subst (λ bytes. IsOrder 0 bytes h.spells.lines) written h.spells.text) g.spells.text in
    h.text ∙ ap₂ (λ n (bytes : List ℕ). report e es ws n bytes) (ap length lines) written ∙ sym g.text

pub reports_alike : (traced : Bool) (q r : Ran) (x y : List ℕ) → AreAlike q r → IsReportOf traced q x → IsReportOf traced r y → x ≡ y
reports_alike traced q r x y same h g =
    let other : IsReport r.ending r.journal.items (waits r.cluster.state) h.report =
    subst (λ e. IsReport e r.journal.items (waits r.cluster.state) h.report) same.ends
    (subst (λ es. IsReport q.ending es (waits r.cluster.state) h.report) same.entries (subst (λ ws. IsReport q.ending q.journal.items ws h.report) (wait_alike q r same) h.is)) in
    let one = one_report r.ending r.journal.items (waits r.cluster.state) h.report g.report other g.is in
    h.whole ∙ ap₂ (λ (text : List ℕ) es. text ++ trace_part traced es) one same.entries ∙ sym g.whole

pub summaries_alike : (q r : Ran) (x y : List ℕ) → AreAlike q r → IsSummaryOf q x → IsSummaryOf r y → x ≡ y
summaries_alike q r x y same h g =
    h ∙ ap (λ e. summary e q.journal.items (waits q.cluster.state)) same.ends ∙ ap₂ (λ es ws. summary r.ending es ws) same.entries (wait_alike q r same) ∙ sym g
