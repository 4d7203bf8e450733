use Rattle.std.proofs.Common.{rules, ◌≡◌, ◌++◌, [], ◌∷◌, Some, None, slice_get, drop, sym, ap, ◌∙◌, arith}
use Rattle.std.proofs.lemmas.List.{append-nil}
use Rattle.server_model.specs.Questions.{waits_among}
use Rattle.cluster_core.specs.Merging.{earlier}
use Rattle.cluster_core.proofs.MergeLemmas.{add_each, picked, none_left, goes_on, waits_added, waits_sorted}
use Rattle.cluster_core.proofs.waiting.merged.Goals as goal

pub waits-init : goal.waits-init
waits-init c =
    let own = waits_among c.args.server.now.state.threads [] in
    ap (λ l. l ++ add_each own c.args.others.now.items) c.new-all.ensures ∙ waits_added c.args.server.now.state.threads c.args.others.now.items

pub waits-smaller : goal.waits-smaller
waits-smaller c =
    let own = waits_among c.args.server.now.state.threads [] in
    let others = c.args.others.now.items in
    let pick : earlier (slice_get own c.waits.here) (slice_get others c.waits.there) ≡ Some (c.in-Some.is_own, c.in-Some.thread, c.in-Some.wait) =
    ap (λ o. earlier o (slice_get others c.waits.there)) (sym c.waits_at.ensures) ∙ ap (earlier c.waits_at.result) (sym c.at.ensures ∙ sym c.copied.ensures) ∙ sym c.earlier.ensures ∙ c.in-Some.is in
    let k = picked own others c.waits.here c.waits.there c.in-Some.is_own c.in-Some.thread c.in-Some.wait (waits_sorted c.args.server.now.state.threads) pick in
    omega (arith, k.fewer, c.in_ok-here.ensures, c.in_ok-there.ensures)

pub waits-preserved : goal.waits-preserved
waits-preserved c =
    let own = waits_among c.args.server.now.state.threads [] in
    let others = c.args.others.now.items in
    let pick : earlier (slice_get own c.waits.here) (slice_get others c.waits.there) ≡ Some (c.in-Some.is_own, c.in-Some.thread, c.in-Some.wait) =
    ap (λ o. earlier o (slice_get others c.waits.there)) (sym c.waits_at.ensures) ∙ ap (earlier c.waits_at.result) (sym c.at.ensures ∙ sym c.copied.ensures) ∙ sym c.earlier.ensures ∙ c.in-Some.is in
    let k = picked own others c.waits.here c.waits.there c.in-Some.is_own c.in-Some.thread c.in-Some.wait (waits_sorted c.args.server.now.state.threads) pick in
    let pushed : c.push.new.self.items ≡ c.waits.all.items ++ (c.in-Some.thread, c.in-Some.wait) ∷ [] = search rules in
    ap (λ l. l ++ add_each (drop c.in_ok-here.here own) (drop c.in_ok-there.there others)) pushed
    ∙ goes_on own others c.waits.all.items c.waits.here c.waits.there c.in_ok-here.here c.in_ok-there.there c.in-Some.is_own c.in-Some.thread c.in-Some.wait (waits_among c.args.server.now.state.threads others) k c.waits.invariant c.in_ok-here.ensures c.in_ok-there.ensures

pub returns : goal.returns
returns c =
    let own = waits_among c.args.server.now.state.threads [] in
    let others = c.args.others.now.items in
    let none : earlier (slice_get own c.waits.here) (slice_get others c.waits.there) ≡ None =
    ap (λ o. earlier o (slice_get others c.waits.there)) (sym c.waits_at.ensures) ∙ ap (earlier c.waits_at.result) (sym c.at.ensures ∙ sym c.copied.ensures) ∙ sym c.earlier.ensures ∙ c.in_default.is in
    sym (append-nil c.waits.all.items) ∙ ap (λ l. c.waits.all.items ++ l) (sym (none_left own others c.waits.here c.waits.there none)) ∙ c.waits.invariant
