use Rattle.std.proofs.Common.{◌≡◌, ap, ◌∙◌}
use Rattle.server_model.specs.Servers.{empty_server}
use Rattle.server_parts.specs.Threads.{states, first_threads}
use Rattle.server_core.proofs.ServerLemmas.{start_server}
use Rattle.server_core.proofs.server.Server.new.Goals as goal

pub returns-clause-state : goal.returns-clause-state
returns-clause-state c =
    let rest : c.in_ok-new.field-0.value.state.rest ≡ (empty_server c.args.options.now c.args.server).rest = ap (λ w. w.state.rest) c.in_ok-new.ensures.ok ∙ c.new.ensures.rest in
    let threads : states c.in_ok-new-2.field-0.value ≡ first_threads c.args.server = ap states c.in_ok-new-2.ensures.ok ∙ c.in_ok-first_threads.ensures in
    rw (rest, threads) (start_server c.args.options.now c.args.options.now.servers c.args.server c.requires.server)
