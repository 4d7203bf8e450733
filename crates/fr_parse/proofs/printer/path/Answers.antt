use Rattle.std.proofs.Common.{◌≡◌, ◌∷◌, [], replicate, string_bytes, codes, arith, subst}
use Rattle.fr_syntax.specs.Arena.{text_of}
use Rattle.fr_parse.specs.Canonical.{path_words}
use Rattle.fr_parse.specs.Written.{IsWritten}
use Rattle.fr_parse.proofs.PrintLemmas.{on_ok, star_written, path_written}
use Rattle.fr_parse.proofs.printer.path.Goals as goal

pub stars-preserved : goal.stars-preserved
stars-preserved c = star_written c.stars.counter (string_bytes c.args.text.now) (string_bytes c.stars.text) (string_bytes c.word.new.text) c.stars.invariant c.in_ok-word.ensures

pub returns : goal.returns
returns c =
    let end : c.stars.counter ≡ c.args.stars = omega (arith, c.stars.auto.counter-end, c.stars-test.false) in
    let all = subst (λ n. IsWritten (string_bytes c.args.text.now) (replicate n (codes "*")) (string_bytes c.stars.text)) end c.stars.invariant in
    on_ok (IsWritten (string_bytes c.stars.text) (text_of c.args.tree.now.names c.args.number ∷ []) (string_bytes c.name.new.text)) (IsWritten (string_bytes c.args.text.now) (path_words c.args.stars (text_of c.args.tree.now.names c.args.number)) (string_bytes c.name.new.text)) c.name.result
    (path_written c.args.stars (text_of c.args.tree.now.names c.args.number) (string_bytes c.args.text.now) (string_bytes c.stars.text) (string_bytes c.name.new.text) all) c.name.ensures
