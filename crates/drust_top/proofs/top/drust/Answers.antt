use Rattle.std.proofs.Common.{◌≡◌, None, map, string_bytes, rules}
use Rattle.drust_cli.specs.Asked.{asked}
use Rattle.drust_top.specs.Headline.{words_refused}
use Rattle.drust_top.proofs.FromCause.{caused, loaded}
use Rattle.drust_top.proofs.InTime.{never_unfinished}
use Rattle.drust_top.proofs.Ranges.{asked_options, asked_size}
use Rattle.drust_top.proofs.top.drust.Goals as goal

pub input-requires-clause-within : goal.input-requires-clause-within
input-requires-clause-within g c = λ _ _. asked_options (map string_bytes c.args.words.now.items) c.in-Ok.request c.in-Ok.ensures.asked

pub generated-requires-clause-within : goal.generated-requires-clause-within
generated-requires-clause-within g c = λ _ _. asked_options (map string_bytes c.args.words.now.items) c.in-Ok.request c.in-Ok.ensures.asked

pub generated-requires-clause-least : goal.generated-requires-clause-least
generated-requires-clause-least g c = λ _ _. (asked_size (map string_bytes c.args.words.now.items) c.in-Ok.request c.in-Ok.ensures.asked).least

pub generated-requires-clause-most : goal.generated-requires-clause-most
generated-requires-clause-most g c = λ _ _. (asked_size (map string_bytes c.args.words.now.items) c.in-Ok.request c.in-Ok.ensures.asked).most

pub returns-then-reads-clause-from_cause : goal.returns-then-reads-clause-from_cause
returns-then-reads-clause-from_cause g c =
    let words = map string_bytes c.args.words.now.items in
    caused words (g.S.Source.left c.args.source.now) c.input.result.ran c.input.result.status (g.K.Sink.written c.args.sink.now) (g.K.Sink.written c.input.new.sink) c.input.ensures.status (c.input.ensures.answered words c.in-Ok.ensures.asked)

pub returns-then-reads-clause-loads : goal.returns-then-reads-clause-loads
returns-then-reads-clause-loads g c =
    let words = map string_bytes c.args.words.now.items in
    loaded c.programs_are_sources.ensures.sources words (g.S.Source.left c.args.source.now) c.input.result.ran c.input.result.status (g.K.Sink.written c.args.sink.now) (g.K.Sink.written c.input.new.sink) c.input.ensures.status (c.input.ensures.answered words c.in-Ok.ensures.asked)

pub returns-else-reads-clause-from_cause : goal.returns-else-reads-clause-from_cause
returns-else-reads-clause-from_cause g c =
    let words = map string_bytes c.args.words.now.items in
    let left = g.S.Source.left c.args.source.now in
    caused words left c.generated.result.ran c.generated.result.status (g.K.Sink.written c.args.sink.now) (g.K.Sink.written c.generated.new.sink) c.generated.ensures.status (c.generated.ensures.answered words left c.in-Ok.ensures.asked)

pub returns-else-reads-clause-loads : goal.returns-else-reads-clause-loads
returns-else-reads-clause-loads g c =
    let words = map string_bytes c.args.words.now.items in
    let left = g.S.Source.left c.args.source.now in
    loaded c.programs_are_sources.ensures.sources words left c.generated.result.ran c.generated.result.status (g.K.Sink.written c.args.sink.now) (g.K.Sink.written c.generated.new.sink) c.generated.ensures.status (c.generated.ensures.answered words left c.in-Ok.ensures.asked)

pub returns-in-Err-BadWords-clause-answered : goal.returns-in-Err-BadWords-clause-answered
returns-in-Err-BadWords-clause-answered g c = λ h.
    let none : asked (map string_bytes c.args.words.now.items) ≡ None = search rules in
    c.reply.ensures.answered (map string_bytes c.args.words.now.items) (g.S.Source.left c.args.source.now) (words_refused none) h

pub returns-in-Err-BadWords-clause-broken : goal.returns-in-Err-BadWords-clause-broken
returns-in-Err-BadWords-clause-broken g c = λ h.
    let none : asked (map string_bytes c.args.words.now.items) ≡ None = search rules in
    c.reply.ensures.broken (map string_bytes c.args.words.now.items) (g.S.Source.left c.args.source.now) (words_refused none) h

pub returns-then-reads-clause-in_time : goal.returns-then-reads-clause-in_time
returns-then-reads-clause-in_time g c =
    let words = map string_bytes c.args.words.now.items in
    never_unfinished words (g.S.Source.left c.args.source.now) c.input.result.ran c.input.result.status (g.K.Sink.written c.args.sink.now) (g.K.Sink.written c.input.new.sink) (c.input.ensures.right words c.in-Ok.ensures.asked) (c.input.ensures.answered words c.in-Ok.ensures.asked)

pub returns-else-reads-clause-in_time : goal.returns-else-reads-clause-in_time
returns-else-reads-clause-in_time g c =
    let words = map string_bytes c.args.words.now.items in
    let left = g.S.Source.left c.args.source.now in
    never_unfinished words left c.generated.result.ran c.generated.result.status (g.K.Sink.written c.args.sink.now) (g.K.Sink.written c.generated.new.sink) (c.generated.ensures.right words left c.in-Ok.ensures.asked) (c.generated.ensures.answered words left c.in-Ok.ensures.asked)
