-- Small token lists and what they spell.
use Rattle.std.proofs.Common.{◌≡◌, ℕ, pos, negsuc, List, [], ◌∷◌, refl, inl, inr, codes}
use Rattle.std.specs.Prelude.{Ok, Err}
use Rattle.fr_base.specs.declared.place.Op.TheVariants.{Add}
use Rattle.fr_terms.specs.Terms.{Text, Spot, Term, block_t, let_t, assign_t, read_t, borrow_t, borrow_mut_t, number_t, unit_t, box_t, print_t, arith_t, lock_t, spawn_t, par_t, none, item}
use Rattle.fr_syntax.specs.declared.kind.TokenKind.{TokenKind}
use Rattle.fr_syntax.specs.declared.kind.TokenKind.TheVariants.{Name, Number, End, LetWord, MutWord, BoxWord, PrintWord, SpawnWord, ParWord, LockWord, AsWord, DupWord, OpenBrace, CloseBrace, OpenParen, CloseParen, Semicolon, Comma, Equals, Amp, Star, Plus, Minus}
use Rattle.fr_syntax.specs.declared.token.Token.{Token}
use Rattle.fr_grammar.specs.declared.fault.ParseError.TheVariants.{Syntax}
use Rattle.fr_grammar.specs.Grammar.{IsProgram}
use Rattle.fr_grammar.specs.Source.{Spelled}
use Rattle.fr_grammar.specs.Reading.{program_at, any_at, block_at, items_at, item_next, next_at, rest_at, placed_at, spot_at, name_at, bound_at, after_terminal, leaf_at, borrow_at, inner_at, arith_at, op_at, body_at, spawn_at, par_at, lock_at, held_at, branch_at, captures_at, list_at, captured_at, capture_next, capture_at, comma_at, ended_at}
use Rattle.fr_grammar.proofs.Programs.{program_sound}

-- a token that starts there
abbrev at : ℕ → TokenKind → Token
at start kind = record { kind = kind; start = start; end = start }

-- the one name of these sources
names : List Text
names = codes "x" ∷ []

-- { -1; }
abbrev turned : List Token
turned = at 0 OpenBrace ∷ at 2 Minus ∷ at 3 (Number (pos 1)) ∷ at 4 Semicolon ∷ at 6 CloseBrace ∷ at 7 End ∷ []

-- it spells a block with -1 and the constant unit, which stands at the closing mark
turned_spells : IsProgram [] turned (block_t 0 (item (number_t 2 (negsuc 0)) (item (unit_t 6) none)))
turned_spells = (
  tt,
  (_, (_, ((refl, refl), refl), (_, inr (_, _, ((refl, refl), refl), (refl, refl), refl), (_, (refl, refl), inr (6, refl, refl, ((refl, refl), refl))))), (refl, refl)),
)

-- { spawn (x) { (x + 1) } }
abbrev spawned : List Token
spawned = at 0 OpenBrace ∷ at 2 SpawnWord ∷ at 8 OpenParen ∷ at 9 (Name 0) ∷ at 10 CloseParen ∷ at 12 OpenBrace ∷ at 14 OpenParen ∷ at 15 (Name 0) ∷ at 17 Plus ∷ at 19 (Number (pos 1)) ∷ at 20 CloseParen ∷ at 22 CloseBrace ∷ at 24 CloseBrace ∷ at 25 End ∷ []

-- the name without stars
abbrev x_at : ℕ → Spot
x_at place = record { at = place; name = codes "x"; stars = 0 }

-- the block of the spawn
abbrev body : Term
body = block_t 12 (item (arith_t 14 Add (read_t 15 (x_at 15)) (number_t 19 (pos 1))) none)

-- it spells a spawn with one captured name
spawned_spells : IsProgram names spawned (block_t 0 (item (spawn_t 2 (record { at = 9; name = codes "x" } ∷ []) body) none))
unfolding names
spawned_spells = (
  tt,
  (
    _,
    (
      _,
      ((refl, refl), refl),
      (
        _,
        (
          _,
          _,
          ((refl, refl), refl),
          (_, (refl, refl), (_, refl, (0, refl, (refl, refl)), (refl, refl))),
          tt,
          (
            _,
            ((refl, refl), refl),
            (_, (_, _, _, _, ((refl, refl), refl), (refl, (refl, (0, refl, (refl, refl)))), (refl, refl), inl ((refl, refl), refl), (refl, refl)), (refl, refl)),
          ),
        ),
        (refl, refl),
      ),
    ),
    (refl, refl),
  ),
)

-- { let mut x = box 1; *x = 2; print *x }
abbrev boxed : List Token
boxed =
    at 0 OpenBrace ∷ at 2 LetWord ∷ at 6 MutWord ∷ at 10 (Name 0) ∷ at 12 Equals ∷ at 14 BoxWord ∷ at 18 (Number (pos 1)) ∷ at 19 Semicolon
    ∷ at 21 Star ∷ at 22 (Name 0) ∷ at 24 Equals ∷ at 26 (Number (pos 2)) ∷ at 27 Semicolon
    ∷ at 29 PrintWord ∷ at 35 Star ∷ at 36 (Name 0) ∷ at 38 CloseBrace ∷ at 39 End ∷ []

-- the name under one star
abbrev star_x : ℕ → Spot
star_x place = record { at = place; name = codes "x"; stars = 1 }

-- its term
abbrev boxed_term : Term
boxed_term =
    block_t 0 (item (let_t 2 (codes "x") (box_t 14 (number_t 18 (pos 1))))
    (item (assign_t 21 (star_x 21) (number_t 26 (pos 2))) (item (print_t 29 (read_t 35 (star_x 35))) none)))

-- reading gives this term
boxed_is_read : program_at names boxed ≡ Ok boxed_term
unfolding names program_at body_at any_at block_at items_at item_next next_at rest_at placed_at spot_at name_at bound_at after_terminal leaf_at ended_at
boxed_is_read = refl

-- so the tokens spell it
boxed_spells : Spelled names boxed boxed_term
boxed_spells = program_sound names boxed boxed_term boxed_is_read

-- { &x }
borrowed_is_read : program_at names (at 0 OpenBrace ∷ at 2 Amp ∷ at 3 (Name 0) ∷ at 5 CloseBrace ∷ at 6 End ∷ []) ≡ Ok (block_t 0 (item (borrow_t 2 (x_at 3)) none))
unfolding names program_at body_at any_at block_at items_at item_next next_at spot_at name_at leaf_at borrow_at ended_at
borrowed_is_read = refl

-- { &mut *x }
changed_is_read : program_at names (at 0 OpenBrace ∷ at 2 Amp ∷ at 3 MutWord ∷ at 7 Star ∷ at 8 (Name 0) ∷ at 10 CloseBrace ∷ at 11 End ∷ []) ≡ Ok (block_t 0 (item (borrow_mut_t 2 (star_x 7)) none))
unfolding names program_at body_at any_at block_at items_at item_next next_at spot_at name_at leaf_at borrow_at ended_at
changed_is_read = refl

-- { spawn (x) { } }
empty_spawn_is_read : program_at names (at 0 OpenBrace ∷ at 2 SpawnWord ∷ at 8 OpenParen ∷ at 9 (Name 0) ∷ at 10 CloseParen ∷ at 12 OpenBrace ∷ at 14 CloseBrace ∷ at 16 CloseBrace ∷ at 17 End ∷ []) ≡ Ok (block_t 0 (item (spawn_t 2 (record { at = 9; name = codes "x" } ∷ []) (block_t 12 none)) none))
unfolding names program_at body_at any_at block_at items_at item_next next_at name_at spawn_at branch_at captures_at after_terminal list_at captured_at capture_next capture_at comma_at ended_at
empty_spawn_is_read = refl

-- { par () { } (x, x) { } }: that a name is captured twice is no matter of the grammar
par_is_read : program_at names
    (at 0 OpenBrace ∷ at 2 ParWord ∷ at 6 OpenParen ∷ at 7 CloseParen ∷ at 9 OpenBrace ∷ at 11 CloseBrace
    ∷ at 13 OpenParen ∷ at 14 (Name 0) ∷ at 15 Comma ∷ at 17 (Name 0) ∷ at 18 CloseParen ∷ at 20 OpenBrace ∷ at 22 CloseBrace ∷ at 24 CloseBrace ∷ at 25 End ∷ [])
    ≡ Ok (block_t 0 (item (par_t 2 [] (block_t 9 none) (record { at = 14; name = codes "x" } ∷ record { at = 17; name = codes "x" } ∷ []) (block_t 20 none)) none))
unfolding names program_at body_at any_at block_at items_at item_next next_at name_at par_at branch_at captures_at after_terminal list_at captured_at capture_next capture_at comma_at ended_at
par_is_read = refl

-- { (1 + 2) }
sum_is_read : program_at names (at 0 OpenBrace ∷ at 2 OpenParen ∷ at 3 (Number (pos 1)) ∷ at 5 Plus ∷ at 7 (Number (pos 2)) ∷ at 8 CloseParen ∷ at 10 CloseBrace ∷ at 11 End ∷ []) ≡ Ok (block_t 0 (item (arith_t 2 Add (number_t 3 (pos 1)) (number_t 7 (pos 2))) none))
unfolding names program_at body_at any_at block_at items_at item_next next_at leaf_at inner_at arith_at op_at after_terminal ended_at
sum_is_read = refl

-- { lock m as c { } }
lock_is_read : program_at (codes "m" ∷ codes "c" ∷ []) (at 0 OpenBrace ∷ at 2 LockWord ∷ at 7 (Name 0) ∷ at 9 AsWord ∷ at 12 (Name 1) ∷ at 14 OpenBrace ∷ at 16 CloseBrace ∷ at 18 CloseBrace ∷ at 19 End ∷ []) ≡ Ok (block_t 0 (item (lock_t 2 (record { at = 7; name = codes "m"; stars = 0 }) (codes "c") (block_t 14 none)) none))
unfolding program_at body_at any_at block_at items_at item_next next_at spot_at name_at lock_at held_at after_terminal ended_at
lock_is_read = refl

-- { dup x = 1 } is refused at the mark: only a place of its own is assigned
dup_is_no_place : program_at names (at 0 OpenBrace ∷ at 2 DupWord ∷ at 6 (Name 0) ∷ at 8 Equals ∷ at 10 (Number (pos 1)) ∷ at 12 CloseBrace ∷ at 13 End ∷ []) ≡ Err (Syntax 8)
unfolding names program_at body_at any_at block_at items_at item_next next_at spot_at name_at leaf_at ended_at
dup_is_no_place = refl

-- { spawn (x,) { } } is refused behind the comma
no_name_behind : program_at names (at 0 OpenBrace ∷ at 2 SpawnWord ∷ at 8 OpenParen ∷ at 9 (Name 0) ∷ at 10 Comma ∷ at 11 CloseParen ∷ at 13 OpenBrace ∷ at 15 CloseBrace ∷ at 17 CloseBrace ∷ at 18 End ∷ []) ≡ Err (Syntax 11)
unfolding names program_at body_at any_at block_at items_at item_next next_at name_at spawn_at branch_at captures_at after_terminal list_at captured_at capture_next capture_at comma_at ended_at
no_name_behind = refl
