use Rattle.std.proofs.Common.{ℕ, ◌∷◌, ◌++◌, [], length, string_bytes, codes, sym, ap₂, ◌∙◌, subst, arith}
use Rattle.fr_base.specs.Rooms.{WithRoom}
use Rattle.fr_syntax.specs.declared.tree.Term.TheVariants.{Par}
use Rattle.fr_syntax.specs.Arena.{text_of}
use Rattle.fr_syntax.specs.Meanings.{meanings, term_at, place_at, items_at, captures_at, term_s, capture_s, need, all_need, AreBelow}
use Rattle.fr_grammar.specs.Growth.{branch_parts}
use Rattle.fr_parse.specs.Canonical.{op_word, place_words, capture_words, item_words, words}
use Rattle.fr_parse.specs.Written.{IsWritten}
use Rattle.fr_parse.proofs.PrintLemmas.{on_ok, need_at, item_written, below_later, below_split, par_parts, words_here, written_then, enclosed, arith_written, par_written, lock_written}
use Rattle.fr_parse.proofs.printer.+print.Goals as goal

pub term-branch-tree-requires-in-Par : goal.term-branch-tree-requires-in-Par
term-branch-tree-requires-in-Par t c =
    let ms = meanings c.args.tree.now in
    let parts = par_parts ms c.args.at c.in-Some.node.now.term c.in-Par.nodes c.in-Par.others c.in-Par.body c.in-Par.other c.in-Some.ensures.parts c.in-Par.is in
    (omega (arith, c.decreases), (omega (arith, c.requires.here), subst (λ (l : WithRoom ℕ). AreBelow ms c.args.at (branch_parts l.items c.in-Par.body)) (sym c.deref.ensures) parts.0))

pub term-branch-tree-requires-in-Par-2 : goal.term-branch-tree-requires-in-Par-2
term-branch-tree-requires-in-Par-2 t c =
    let ms = meanings c.args.tree.now in
    let parts = par_parts ms c.args.at c.in-Some.node.now.term c.in-Par.nodes c.in-Par.others c.in-Par.body c.in-Par.other c.in-Some.ensures.parts c.in-Par.is in
    (omega (arith, c.decreases), (omega (arith, c.requires.here), subst (λ (l : WithRoom ℕ). AreBelow ms c.args.at (branch_parts l.items c.in-Par.other)) (sym c.deref-in-Par.ensures) parts.1))

pub term-returns-in_ok-branch-in-Par : goal.term-returns-in_ok-branch-in-Par
term-returns-in_ok-branch-in-Par t c =
    let ms = meanings c.args.tree.now in
    let first = words (term_at ms c.in-Par.body) in
    let second = words (term_at ms c.in-Par.other) in
    let here = words_here c.args.tree.now.names ms c.args.at c.in-Some.node.now.place c.in-Some.node.now.term (Par c.in-Par.nodes c.in-Par.body c.in-Par.others c.in-Par.other) c.in-Some.ensures.what c.in-Par.is in
    let seen = here ∙ ap₂ (λ (l : WithRoom ℕ) (m : WithRoom ℕ). codes "par" ∷ capture_words (captures_at ms l.items) ++ first ++ capture_words (captures_at ms m.items) ++ second) (sym c.deref.ensures) (sym c.deref-in-Par.ensures) in
    on_ok _ _ c.branch-tree-in-Par-2.result
    (par_written (capture_words (captures_at ms c.deref.result.now.items)) first (capture_words (captures_at ms c.deref-in-Par.result.now.items)) second (words (term_at ms c.args.at)) (string_bytes c.args.text.now) (string_bytes c.word-in-Par.new.text) (string_bytes c.branch-tree-in-Par.new.text) (string_bytes c.branch-tree-in-Par-2.new.text) seen c.in_ok-word-in-Par.ensures c.in_ok-branch-in-Par.ensures) c.branch-tree-in-Par-2.ensures

pub block-returns : goal.block-returns
block-returns t c =
    on_ok _ _ c.word-2.result
    (enclosed (codes "{") (codes "}") (item_words (items_at (meanings c.args.tree.now) c.args.nodes.now.items)) (string_bytes c.args.text.now) (string_bytes c.word.new.text) (string_bytes c.items.new.text) (string_bytes c.word-2.new.text) c.in_ok-word.ensures c.in_ok-items.ensures) c.word-2.ensures

pub items-term-requires : goal.items-term-requires
items-term-requires t c =
    let part = need_at (meanings c.args.tree.now) c.args.bound term_s c.args.nodes.now.items c.items.next c.in-Some.item.now c.requires.parts c.in-Some.ensures in
    (omega (arith, c.decreases, part.0), (omega (arith, part.0, c.requires.inside), part.1))

pub items-items-preserved : goal.items-items-preserved
items-items-preserved t c =
    item_written (meanings c.args.tree.now) c.args.nodes.now.items c.items.next c.in-Some.item.now (string_bytes c.args.text.now) (string_bytes c.items.text) (string_bytes c.mark_before.new.text) (string_bytes c.term.new.text) c.in-Some.ensures c.items.invariant c.in_ok-mark_before.ensures c.in_ok-term.ensures

pub assignment-returns : goal.assignment-returns
assignment-returns t c =
    on_ok _ _ c.term_behind.result (written_then (place_words (place_at (meanings c.args.tree.now) c.args.to)) (codes "=" ∷ words (term_at (meanings c.args.tree.now) c.args.value)) (string_bytes c.args.text.now) (string_bytes c.place.new.text) (string_bytes c.term_behind.new.text) c.in_ok-place.ensures) c.term_behind.ensures

pub arithmetic-returns : goal.arithmetic-returns
arithmetic-returns t c =
    let second = subst (λ w. IsWritten (string_bytes c.term.new.text) (w ∷ words (term_at (meanings c.args.tree.now) c.args.right)) (string_bytes c.term_behind.new.text)) c.op_word.ensures c.in_ok-term_behind.ensures in
    on_ok _ _ c.word-2.result
    (arith_written (words (term_at (meanings c.args.tree.now) c.args.left)) (words (term_at (meanings c.args.tree.now) c.args.right)) (op_word c.args.op) (string_bytes c.args.text.now) (string_bytes c.word.new.text) (string_bytes c.term.new.text) (string_bytes c.term_behind.new.text) (string_bytes c.word-2.new.text) c.in_ok-word.ensures c.in_ok-term.ensures second) c.word-2.ensures

pub branch-captures-requires : goal.branch-captures-requires
branch-captures-requires t c =
    let parts = below_split (meanings c.args.tree.now) c.args.bound (all_need capture_s c.args.nodes.now.items) (need term_s c.args.body ∷ []) c.requires.parts in
    record { parts = below_later (meanings c.args.tree.now) c.args.bound (length (meanings c.args.tree.now)) (all_need capture_s c.args.nodes.now.items) c.requires.inside parts.0 }

pub branch-term-requires : goal.branch-term-requires
branch-term-requires t c =
    let parts = below_split (meanings c.args.tree.now) c.args.bound (all_need capture_s c.args.nodes.now.items) (need term_s c.args.body ∷ []) c.requires.parts in
    (omega (arith, c.decreases, parts.1.0), (omega (arith, parts.1.0, c.requires.inside), parts.1.1))

pub branch-returns : goal.branch-returns
branch-returns t c =
    on_ok _ _ c.term.result (written_then (capture_words (captures_at (meanings c.args.tree.now) c.args.nodes.now.items)) (words (term_at (meanings c.args.tree.now) c.args.body)) (string_bytes c.args.text.now) (string_bytes c.captures-2.new.text) (string_bytes c.term.new.text) c.in_ok-captures.ensures) c.term.ensures

pub lock-returns : goal.lock-returns
lock-returns t c =
    on_ok _ _ c.term.result
    (lock_written (place_words (place_at (meanings c.args.tree.now) c.args.of)) (words (term_at (meanings c.args.tree.now) c.args.body)) (text_of c.args.tree.now.names c.args.number) (string_bytes c.args.text.now) (string_bytes c.place_behind.new.text) (string_bytes c.word.new.text) (string_bytes c.name.new.text) (string_bytes c.term.new.text) c.in_ok-place_behind.ensures c.in_ok-word.ensures c.in_ok-name.ensures) c.term.ensures
