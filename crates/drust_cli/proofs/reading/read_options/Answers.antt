use Rattle.std.proofs.Common.{◌≡◌, ◌∙◌, sym, map, string_bytes, true, true≢false}
use Rattle.clap.specs.Words.{found_of}
use Rattle.std.specs.List.{list_all}
use Rattle.std.proofs.lemmas.List.Folds.{list_all-map}
use Rattle.drust_cli.specs.Asked.{asked_behind}
use Rattle.drust_cli.specs.Words.{is_clean}
use Rattle.drust_cli.proofs.Asks.{asked_found, asked_refused, asked_unclean, bad_asked, ok_asked}
use Rattle.drust_cli.proofs.reading.read_options.Goals as goal

pub returns-then-not-all_clean-clause-bad : goal.returns-then-not-all_clean-clause-bad
returns-then-not-all_clean-clause-bad c = λ _.
    asked_unclean c.args.command (map string_bytes c.args.words.now) (list_all-map is_clean string_bytes c.args.words.now ∙ (sym c.all_clean.ensures ∙ c.if-not-all_clean.true))

pub returns-in-Ok-clause-asked : goal.returns-in-Ok-clause-asked
returns-in-Ok-clause-asked c =
    let clean : list_all is_clean (map string_bytes c.args.words.now) ≡ true = list_all-map is_clean string_bytes c.args.words.now ∙ (sym c.all_clean.ensures ∙ c.if-not-all_clean.false) in
    ok_asked c.gathered.result (asked_behind c.args.command (map string_bytes c.args.words.now)) _ c.ok_or.result c.ok_or.ensures.value
    (c.gathered.ensures ∙ asked_found c.args.command (map string_bytes c.args.words.now) (found_of c.in-Ok.matches) clean c.in-Ok.ensures.taken c.in-Ok.ensures.rows)

pub returns-in-Ok-clause-bad : goal.returns-in-Ok-clause-bad
returns-in-Ok-clause-bad c =
    let clean : list_all is_clean (map string_bytes c.args.words.now) ≡ true = list_all-map is_clean string_bytes c.args.words.now ∙ (sym c.all_clean.ensures ∙ c.if-not-all_clean.false) in
    bad_asked c.gathered.result (asked_behind c.args.command (map string_bytes c.args.words.now)) _ _ c.ok_or.result c.ok_or.ensures.value
    (c.gathered.ensures ∙ asked_found c.args.command (map string_bytes c.args.words.now) (found_of c.in-Ok.matches) clean c.in-Ok.ensures.taken c.in-Ok.ensures.rows)

pub returns-clause-bad : goal.returns-clause-bad
returns-clause-bad c = λ _.
    let clean : list_all is_clean (map string_bytes c.args.words.now) ≡ true = list_all-map is_clean string_bytes c.args.words.now ∙ (sym c.all_clean.ensures ∙ c.if-not-all_clean.false) in
    asked_refused c.args.command (map string_bytes c.args.words.now) clean (λ none. absurd (true≢false (rw (c.kind.ensures ∙ c.in-Err.ensures.refused none) at (sym c.eq.ensures ∙ c.if-eq.false))))
