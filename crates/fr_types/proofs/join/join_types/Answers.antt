use Rattle.std.proofs.Common.{Some, None, sym, ap}
use Rattle.fr_typing.specs.Places.{alike}
use Rattle.fr_types.specs.Types.{kind_of}
use Rattle.fr_types.specs.States.{env_of}
use Rattle.fr_types.proofs.JoinLemmas.{join_shared, join_mutable}
use Rattle.fr_types.proofs.join.join_types.Goals as goal

pub returns-in-Some : goal.returns-in-Some
returns-in-Some c = λ names.
    join_shared (alike (env_of names c.args.env.now)) (kind_of c.args.a.now) (kind_of c.args.b.now) c.in-Shared-Shared.us c.in-Shared-Shared.vs (Some c.in-Some.ws) c.in_ok-ws-in-Shared-Shared.field-0
    (ap kind_of c.in-Shared-Shared.is-0) (ap kind_of c.in-Shared-Shared.is-1) (sym c.in-Some.is) (c.in_ok-ws-in-Shared-Shared.ensures names)

pub returns-in-None : goal.returns-in-None
returns-in-None c = λ names.
    join_shared (alike (env_of names c.args.env.now)) (kind_of c.args.a.now) (kind_of c.args.b.now) c.in-Shared-Shared.us c.in-Shared-Shared.vs None c.in_ok-ws-in-Shared-Shared.field-0
    (ap kind_of c.in-Shared-Shared.is-0) (ap kind_of c.in-Shared-Shared.is-1) (sym c.in-None.is) (c.in_ok-ws-in-Shared-Shared.ensures names)

pub returns-in-Some-2 : goal.returns-in-Some-2
returns-in-Some-2 c = λ names.
    join_mutable (alike (env_of names c.args.env.now)) (kind_of c.args.a.now) (kind_of c.args.b.now) c.in-Mut-Mut.us c.in-Mut-Mut.vs (Some c.in-Some-2.ws) c.in_ok-ws-in-Mut-Mut.field-0
    (ap kind_of c.in-Mut-Mut.is-0) (ap kind_of c.in-Mut-Mut.is-1) (sym c.in-Some-2.is) (c.in_ok-ws-in-Mut-Mut.ensures names)

pub returns-in-None-2 : goal.returns-in-None-2
returns-in-None-2 c = λ names.
    join_mutable (alike (env_of names c.args.env.now)) (kind_of c.args.a.now) (kind_of c.args.b.now) c.in-Mut-Mut.us c.in-Mut-Mut.vs None c.in_ok-ws-in-Mut-Mut.field-0
    (ap kind_of c.in-Mut-Mut.is-0) (ap kind_of c.in-Mut-Mut.is-1) (sym c.in-None-2.is) (c.in_ok-ws-in-Mut-Mut.ensures names)
