use Rattle.std.proofs.Common.{nat_lt, sym, ap, ◌∙◌, arith}
use Rattle.fr_types.specs.declared.loans.Loans.{Loans}
use Rattle.fr_types.specs.Inside.{newest}
use Rattle.fr_types.proofs.LoanLemmas.{loans_seen}
use Rattle.fr_types.proofs.CountLemmas.{read_counted, outside, not_lt}
use Rattle.fr_types.proofs.env.Env.read_blocked.Goals as goal

pub returns-then-at-len : goal.returns-then-at-len
returns-then-at-len c = λ names.
    read_counted names (newest c.self.inside.slots.items) c.args.self.now c.self.inside.loans.items c.args.no _ c.self.invariant.tabled.counted c.self.view_is
    (ap (λ (l : Loans). nat_lt 0 l.mutable) (loans_seen c.self.inside.loans.items c.args.no c.index.result.now (omega (arith, c.self.inside.loans.ok.0)) c.index.ensures))

pub returns-else-at-len : goal.returns-else-at-len
returns-else-at-len c = λ names.
    read_counted names (newest c.self.inside.slots.items) c.args.self.now c.self.inside.loans.items c.args.no _ c.self.invariant.tabled.counted c.self.view_is
    (not_lt c.args.no c.len.result (omega arith) ∙ ap (λ (l : Loans). nat_lt 0 l.mutable) (sym (outside c.self.inside.loans.items c.args.no (omega (arith, c.self.inside.loans.ok.0)))))
