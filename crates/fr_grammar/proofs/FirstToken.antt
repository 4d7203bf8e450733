-- What is read by the kind of the first token, as code finds it.
use Rattle.std.proofs.Common.{◌≡◌, ℕ, zero, suc, ◌-◌, ◌≤◌, true, false, List, [], ◌∷◌, length, get_or, take, drop, take_all, refl, sym, ap, ◌∙◌, arith}
use Rattle.std.specs.Prelude.{Ok}
use Rattle.fr_terms.specs.Terms.{Text, Spot, Term, let_t, borrow_t}
use Rattle.fr_syntax.specs.Arena.{Arena, text_of}
use Rattle.fr_syntax.specs.Meanings.{a_term, as_term, Meaning, meanings, meaning_at, term_at}
use Rattle.fr_syntax.specs.declared.kind.TokenKind.{TokenKind}
use Rattle.fr_syntax.specs.declared.kind.TokenKind.TheVariants.{LetWord, MutWord}
use Rattle.fr_syntax.specs.declared.token.Token.{Token}
use Rattle.fr_grammar.specs.Reading.{◌>>=◌, Read, bound_at, spot_at, borrow_kind, borrow_at, any_kind, any_at}

-- an item that is no `let` is read as a term
pub item_term : (names : List Text) (depth : ℕ) (tokens : List Token) (d : Token) → (depth ≡ 0 → ⊥) → 1 ≤ length tokens → ((get_or tokens 0 d).kind ≡ LetWord → ⊥) → any_at names depth true tokens ≡ any_at names depth false tokens
unfolding any_at
item_term names zero tokens d deep some other = absurd (deep refl)
item_term names (suc n) [] d deep some other = absurd (omega arith)
item_term names (suc n) (t ∷ ts) d deep some other = by t.kind other
  where
    by : (k : TokenKind) → (k ≡ LetWord → ⊥) → any_kind true names (any_at names n true) (any_at names n false) k t.start ts (t ∷ ts) ≡ any_kind false names (any_at names n true) (any_at names n false) k t.start ts (t ∷ ts)
    by LetWord other = absurd (other refl)
    by k other = refl

-- a borrow without `mut`, from its place
pub borrow_value : (names : List Text) (place : ℕ) (tokens rest : List Token) (d : Token) (w : Spot) (x : Term) → 1 ≤ length tokens → ((get_or tokens 0 d).kind ≡ MutWord → ⊥) → spot_at names tokens ≡ Ok (w, rest) → x ≡ borrow_t place w → borrow_at names place tokens ≡ Ok (x, rest)
unfolding borrow_at
borrow_value names place [] rest d w x some other read is = absurd (omega arith)
borrow_value names place (t ∷ ts) rest d w x some other read is = by t.kind other
  where
    of_spot : Read Spot → Read Term
    of_spot r = r >>= λ w. Ok (borrow_t place w.0, w.1)

    by : (k : TokenKind) → (k ≡ MutWord → ⊥) → borrow_kind names place k ts (t ∷ ts) ≡ Ok (x, rest)
    by MutWord other = absurd (other refl)
    by k other = ap of_spot read ∙ ap (λ x. Ok (x, rest)) (sym is)

-- a term that was read
abbrev ok : Term × List Token → Read Term
ok x = Ok x

-- a `let`, from its name and its term
pub let_value : (t0 t1 t2 : Arena) (depth : ℕ) (tokens behind rest : List Token) (d : Token) (name v n : ℕ) (nodes : List ℕ) → (depth ≡ 0 → ⊥) → 1 ≤ length tokens → (get_or tokens 0 d).kind ≡ LetWord → bound_at (take (length tokens - 1) (drop 1 tokens)) ≡ Ok (name, behind) → any_at t0.names (depth - 1) false behind ≡ Ok (term_at (meanings t1) v, rest) → t1.names ≡ t0.names → meaning_at (meanings t2) n ≡ record { what = a_term (let_t (get_or tokens 0 d).start (text_of t1.names name) (term_at (meanings t1) v)); nodes = nodes } → any_at t0.names depth true tokens ≡ Ok (term_at (meanings t2) n, rest)
unfolding any_at
let_value t0 t1 t2 zero tokens behind rest d name v n nodes deep some is bound read names meaning = absurd (deep refl)
let_value t0 t1 t2 (suc m) [] behind rest d name v n nodes deep some is bound read names meaning = absurd (omega arith)
let_value t0 t1 t2 (suc m) (t ∷ ts) behind rest d name v n nodes deep some is bound read names meaning =
    let less : suc (length ts) - 1 ≡ length ts = omega arith in
    let fewer : suc m - 1 ≡ m = omega arith in
    let whole : take (length ts) ts ≡ ts = take_all (length ts) ts (omega arith) in
    let bound_here : bound_at ts ≡ Ok (name, behind) = ap bound_at (sym (ap (λ n. take n ts) less ∙ whole)) ∙ bound in
    let read_here : any_at t0.names m false behind ≡ Ok (term_at (meanings t1) v, rest) = ap (λ m. any_at t0.names m false behind) (sym fewer) ∙ read in
    let with_term : Read Term → Read Term = λ r. r >>= λ x. Ok (let_t t.start (text_of t0.names name) x.0, x.1) in
    let with_name : Read ℕ → Read Term = λ r. r >>= λ b. any_at t0.names m false b.1 >>= λ x. Ok (let_t t.start (text_of t0.names b.0) x.0, x.1) in
    let first : any_at t0.names (suc m) true (t ∷ ts) ≡ with_name (bound_at ts) = ap (λ k. any_kind true t0.names (any_at t0.names m true) (any_at t0.names m false) k t.start ts (t ∷ ts)) is in
    let second : with_name (bound_at ts) ≡ with_term (any_at t0.names m false behind) = ap with_name bound_here in
    let third : with_term (any_at t0.names m false behind) ≡ with_term (Ok (term_at (meanings t1) v, rest)) = ap with_term read_here in
    let fourth : with_term (Ok (term_at (meanings t1) v, rest)) ≡ Ok (let_t t.start (text_of t1.names name) (term_at (meanings t1) v), rest) = ap (λ names. Ok (let_t t.start (text_of names name) (term_at (meanings t1) v), rest)) (sym names) in
    let fifth : ok (let_t t.start (text_of t1.names name) (term_at (meanings t1) v), rest) ≡ Ok (term_at (meanings t2) n, rest) = ap (λ (m : Meaning). Ok (as_term m.what, rest)) (sym meaning) in
    first ∙ second ∙ third ∙ fourth ∙ fifth
