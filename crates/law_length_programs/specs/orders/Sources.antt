-- THE TREE OF A SOURCE (this project's rules): the threads of a source do blocks, and a tree has as many nodes as its term.
use Rattle.std.specs.Prelude.{◌≡◌, List, length}
use Rattle.fr_terms.specs.Terms.{Text, Term}
use Rattle.fr_syntax.specs.declared.token.Token.{Token}
use Rattle.fr_syntax.specs.Arena.{Arena}
use Rattle.fr_syntax.specs.Ordered.{IsArena}
use Rattle.fr_syntax.specs.Meanings.{meanings, meaning_at, root_of, term_of, IsTree}
use Rattle.fr_grammar.specs.Grammar.{IsProgram}
use Rattle.law_length_programs.specs.sizes.Size.{nodes_of, HasBlocks}

-- what the threads of a program do is a block, by its tokens
abbrev pub ProgramsHaveBlocks : Type 0
ProgramsHaveBlocks = (names : List Text) (ts : List Token) (t : Term) → IsProgram names ts t → HasBlocks t

-- the nodes that a tree's root is made of, itself among them, are as many as those of its term
abbrev pub TreesHaveTheirNodes : Type 0
TreesHaveTheirNodes = (a : Arena) → IsArena a → IsTree a → nodes_of (term_of a) ≡ length (meaning_at (meanings a) (root_of a)).nodes
