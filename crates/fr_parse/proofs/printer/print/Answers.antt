use Rattle.std.proofs.Common.{◌≡◌, ◌∷◌, ◌++◌, [], ◌∙◌, string_bytes, codes, ap, sym, subst}
use Rattle.fr_syntax.specs.declared.tree.Term.TheVariants.{Block}
use Rattle.fr_syntax.specs.Meanings.{meanings, term_at, items_at, term_of}
use Rattle.fr_parse.specs.Canonical.{item_words, words}
use Rattle.fr_parse.specs.Written.{IsWritten}
use Rattle.fr_parse.proofs.PrintLemmas.{words_here, program_written}
use Rattle.fr_parse.proofs.printer.print.Goals as goal

pub returns : goal.returns
returns c =
    let inner = item_words (items_at (meanings c.args.tree.now) c.in-Block.nodes.items) in
    let here : words (term_of c.args.tree.now) ≡ codes "{" ∷ inner ++ codes "}" ∷ [] =
    ap (λ n. words (term_at (meanings c.args.tree.now) n)) (sym c.root-root.ensures)
    ∙ words_here c.args.tree.now.names (meanings c.args.tree.now) c.root-root.result c.in-Some.node.now.place c.in-Some.node.now.term (Block c.in-Block.nodes) c.in-Some.ensures.what c.in-Block.is in
    let opened = subst (λ a. IsWritten a (codes "{" ∷ []) (string_bytes c.word.new.text)) c.new-text.ensures.bytes c.in_ok-word.ensures in
    record {
      text = program_written inner (words (term_of c.args.tree.now)) (string_bytes c.word.new.text) (string_bytes c.items.new.text) (string_bytes c.push_str.new.self) here opened c.in_ok-items.ensures c.in_ok-push_str.ensures.bytes;
    }
