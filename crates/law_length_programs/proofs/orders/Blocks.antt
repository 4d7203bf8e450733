-- The threads of a source do blocks.
use Rattle.std.specs.Prelude.{Bool, List}
use Rattle.std.proofs.Common.{inl, inr, sym, subst}
use Rattle.fr_terms.specs.Terms.{Text, Term, block_t, let_t, assign_t, read_t, borrow_t, borrow_mut_t, number_t, unit_t, box_t, print_t, arith_t, join_t, mutex_t, dup_t, lock_t, spawn_t, par_t, Items, none, item}
use Rattle.fr_syntax.specs.declared.token.Token.{Token}
use Rattle.fr_grammar.specs.Grammar.{Spells, SpellsItems, SpellsMore}
use Rattle.law_length_programs.specs.sizes.Size.{HasBlocks, HaveBlocks}
use Rattle.law_length_programs.specs.orders.Sources.{ProgramsHaveBlocks}

mutual
  spelled : (names : List Text) (b : Bool) (t : Term) (ts rest : List Token) → Spells names b t ts rest → HasBlocks t
  spelled names b (block_t at items) ts rest (x, begins, h) = spelled_items names items x rest h
  spelled names b (let_t at name value) ts rest (x, y, z, v, is_item, begins, word, named, equals, h) = spelled names _ value v rest h
  spelled names b (assign_t at to value) ts rest (x, y, same, place, equals, h) = spelled names _ value y rest h
  spelled names b (read_t at from) ts rest h = tt
  spelled names b (borrow_t at of) ts rest h = tt
  spelled names b (borrow_mut_t at of) ts rest h = tt
  spelled names b (number_t at value) ts rest h = tt
  spelled names b (unit_t at) ts rest h = tt
  spelled names b (box_t at value) ts rest (x, begins, h) = spelled names _ value x rest h
  spelled names b (print_t at value) ts rest (x, begins, h) = spelled names _ value x rest h
  spelled names b (arith_t at op left right) ts rest (x, y, z, v, begins, h, mark, g, close) = (spelled names _ left x y h, spelled names _ right z v g)
  spelled names b (join_t at task) ts rest (x, begins, h) = spelled names _ task x rest h
  spelled names b (mutex_t at value) ts rest (x, begins, h) = spelled names _ value x rest h
  spelled names b (dup_t at of) ts rest h = tt
  spelled names b (lock_t at of name body) ts rest (x, y, z, v, begins, place, as_word, named, block, h) = spelled names _ body v rest h
  spelled names b (spawn_t at captures body) ts rest (x, y, begins, captured, block, h) = (block, spelled names _ body y rest h)
  spelled names b (par_t at captures body others other) ts rest (x, y, z, v, begins, captured, block, h, captured2, block2, g) = ((block, spelled names _ body y z h), (block2, spelled names _ other v rest g))

  spelled_items : (names : List Text) (items : Items) (ts rest : List Token) → SpellsItems names items ts rest → HaveBlocks items
  spelled_items names none ts rest h = tt
  spelled_items names (item first more) ts rest (x, h, g) = (spelled names _ first ts x h, spelled_more names more x rest g)

  spelled_more : (names : List Text) (items : Items) (ts rest : List Token) → SpellsMore names items ts rest → HaveBlocks items
  spelled_more names none ts rest h = tt
  spelled_more names (item first more) ts rest (x, semicolon, inl (y, h, g)) = (spelled names _ first x y h, spelled_more names more y rest g)
  spelled_more names (item first more) ts rest (x, semicolon, inr (place, unit, last, close)) = (subst HasBlocks (sym unit) tt, subst HaveBlocks (sym last) tt)

pub programs_have_blocks : ProgramsHaveBlocks
programs_have_blocks names ts t (block, (x, h, end)) = spelled names _ t ts x h
