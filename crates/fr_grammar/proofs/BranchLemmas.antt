-- What is read of new threads: what was read earlier stays as the tree grows.
use Rattle.std.proofs.Common.{◌≡◌, ℕ, false, List, sym, ap, ap₂, ◌∙◌}
use Rattle.std.specs.Prelude.{Result, Ok}
use Rattle.fr_terms.specs.Terms.{Captured, Term, par_t}
use Rattle.fr_syntax.specs.declared.token.Token.{Token}
use Rattle.fr_grammar.specs.declared.fault.ParseError.{ParseError}
use Rattle.fr_syntax.specs.Arena.{Arena}
use Rattle.fr_syntax.specs.Meanings.{capture_s, term_s, all_need, meanings, term_at, captures_at as captures_of}
use Rattle.fr_grammar.specs.Growth.{IsGrown, AreGrown, branch_parts}
use Rattle.fr_grammar.specs.Reading.{◌>>=◌, Read, any_at, captures_at, body_at, branch_at, par_at}
use Rattle.fr_grammar.proofs.GrowthLemmas.{captures_kept, branch_kept}

-- what a branch is read as
abbrev Branch : Type 0
Branch = Result (List Captured × Term × List Token) ParseError

-- a branch, from its names and its body
pub branch_value : (t0 t1 t2 : Arena) (depth : ℕ) (tokens behind rest : List Token) (cs : List ℕ) (b : ℕ) → captures_at t0.names tokens ≡ Ok (captures_of (meanings t1) cs, behind) → body_at (any_at t1.names depth false) behind ≡ Ok (term_at (meanings t2) b, rest) → AreGrown t0 t1 (all_need capture_s cs) → IsGrown term_s t1 t2 b → branch_at t0.names (any_at t0.names depth false) tokens ≡ Ok (captures_of (meanings t2) cs, term_at (meanings t2) b, rest)
unfolding branch_at
branch_value t0 t1 t2 depth tokens behind rest cs b list body some one =
    let with_body : Read (List Captured) → Branch = λ r. r >>= λ c. body_at (any_at t0.names depth false) c.1 >>= λ b. Ok (c.0, b.0, b.1) in
    let with_list : Read Term → Branch = λ r. r >>= λ x. Ok (captures_of (meanings t1) cs, x.0, x.1) in
    ap with_body list ∙ ap (λ names. with_list (body_at (any_at names depth false) behind)) (sym some.names) ∙ ap with_list body
    ∙ ap (λ l. Ok (l, term_at (meanings t2) b, rest)) (sym (captures_kept t0 t1 (meanings t2) cs some one.keeps))

-- two branches, from each of them
pub par_value : (t0 t1 t2 : Arena) (depth place : ℕ) (tokens behind rest : List Token) (cs ds : List ℕ) (b d : ℕ) (x : Term) → branch_at t0.names (any_at t0.names depth false) tokens ≡ Ok (captures_of (meanings t1) cs, term_at (meanings t1) b, behind) → branch_at t1.names (any_at t1.names depth false) behind ≡ Ok (captures_of (meanings t2) ds, term_at (meanings t2) d, rest) → AreGrown t0 t1 (branch_parts cs b) → AreGrown t1 t2 (branch_parts ds d) → x ≡ par_t place (captures_of (meanings t2) cs) (term_at (meanings t2) b) (captures_of (meanings t2) ds) (term_at (meanings t2) d) → par_at t0.names (any_at t0.names depth false) place tokens ≡ Ok (x, rest)
unfolding par_at
par_value t0 t1 t2 depth place tokens behind rest cs ds b d x first second one two is =
    let kept = branch_kept t0 t1 (meanings t2) cs b one two.keeps in
    let with_second : Branch → Read Term = λ r. r >>= λ x. branch_at t0.names (any_at t0.names depth false) x.2 >>= λ y. Ok (par_t place x.0 x.1 y.0 y.1, y.2) in
    let with_first : Branch → Read Term = λ r. r >>= λ y. Ok (par_t place (captures_of (meanings t1) cs) (term_at (meanings t1) b) y.0 y.1, y.2) in
    ap with_second first ∙ ap (λ names. with_first (branch_at names (any_at names depth false) behind)) (sym one.names) ∙ ap with_first second
    ∙ ap₂ (λ l (t : Term). Ok (par_t place l t (captures_of (meanings t2) ds) (term_at (meanings t2) d), rest)) (sym kept.0) (sym kept.1)
    ∙ ap (λ x. Ok (x, rest)) (sym is)
