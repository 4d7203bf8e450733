-- A source has one reading.
use Rattle.std.proofs.Common.{◌≡◌, ℕ, ◌+◌, ◌<◌, List, [], ◌∷◌, ◌++◌, length, refl, sym, ap, ◌∙◌, subst, arith}
use Rattle.std.specs.Prelude.{Ok, Err}
use Rattle.fr_syntax.specs.declared.token.Token.{Token}
use Rattle.fr_syntax.specs.declared.token.TokenError.{TokenError}
use Rattle.fr_syntax.specs.Text.{blanks}
use Rattle.fr_syntax.specs.Tokens.{names_after, kind_at, first_text, after_text, IsFirst, Leads, AreTokens, IsRefused, end_at}

-- tokens with the same fields are the same
same_token : (t u : Token) → t.kind ≡ u.kind → t.start ≡ u.start → t.end ≡ u.end → t ≡ u
same_token t u k s e = ap (λ x. record t { kind = x }) k ∙ ap (λ x. record { kind = u.kind; start = x; end = t.end }) s ∙ ap (λ x. record { kind = u.kind; start = u.start; end = x }) e

-- the first token is one
same_first : (names : List (List ℕ)) (place : ℕ) (bytes : List ℕ) (t u : Token) → IsFirst names place bytes t → IsFirst names place bytes u → t ≡ u
same_first names place bytes t u a b =
    let s : t.start ≡ u.start = a.start ∙ sym b.start in
    let e : t.end ≡ u.end = a.end ∙ ap (λ n. n + length (first_text bytes)) s ∙ sym b.end in
    let k : t.kind ≡ u.kind = cc (a.kind, b.kind, s) in
    same_token t u k s e

-- no token comes next

abbrev Stops : List (List ℕ) → ℕ → List ℕ → Type 0
Stops names place bytes = (t : Token) → IsFirst names place bytes t → ⊥

-- where no text is left
stops_over : (names : List (List ℕ)) (place : ℕ) (bytes : List ℕ) → first_text bytes ≡ [] → Stops names place bytes
stops_over names place bytes over t first =
    let some : 0 < length (first_text bytes) = first.some in
    omega (arith, ap length over)

-- or where the next text is refused
stops_fault : (names : List (List ℕ)) (place : ℕ) (bytes : List ℕ) (e : TokenError) → kind_at names (place + blanks bytes) (first_text bytes) ≡ Err e → Stops names place bytes
stops_fault names place bytes e fault t first =
    let k : kind_at names (place + blanks bytes) (first_text bytes) ≡ Ok t.kind = ap (λ p. kind_at names p (first_text bytes)) (sym first.start) ∙ first.kind in
    cc (k, fault)

-- where two ways stop
record IsSameWay (ts us : List Token) (n m : List (List ℕ)) (p q : ℕ) (r s : List ℕ) : Type 0 where
  tokens : ts ≡ us
  names : n ≡ m
  place : p ≡ q
  rest : r ≡ s

-- two ways from one place that both stop are one
same_way : (names : List (List ℕ)) (place : ℕ) (bytes : List ℕ) (ts us : List Token) (n m : List (List ℕ)) (p q : ℕ) (r s : List ℕ) → Leads names place bytes ts n p r → Leads names place bytes us m q s → Stops n p r → Stops m q s → IsSameWay ts us n m p q r s
same_way names place bytes [] [] n m p q r s a b x y = record { tokens = refl; names = sym a.0 ∙ b.0; place = sym a.1 ∙ b.1; rest = sym a.2 ∙ b.2 }
same_way names place bytes [] (u ∷ us) n m p q r s a b x y =
    absurd (x u (subst (λ v. IsFirst n p v u) a.2 (subst (λ v. IsFirst n v bytes u) a.1 (subst (λ v. IsFirst v place bytes u) a.0 b.0))))
same_way names place bytes (t ∷ ts) [] n m p q r s a b x y =
    absurd (y t (subst (λ v. IsFirst m q v t) b.2 (subst (λ v. IsFirst m v bytes t) b.1 (subst (λ v. IsFirst v place bytes t) b.0 a.0))))
same_way names place bytes (t ∷ ts) (u ∷ us) n m p q r s a b x y =
    let same = same_first names place bytes t u a.0 b.0 in
    let next = subst (λ (v : Token). Leads (names_after names (first_text bytes)) v.end (after_text bytes) us m q s) (sym same) b.1 in
    let way = same_way (names_after names (first_text bytes)) t.end (after_text bytes) ts us n m p q r s a.1 next x y in
    record { tokens = ap (λ v. v ∷ ts) same ∙ ap (λ l. u ∷ l) way.tokens; names = way.names; place = way.place; rest = way.rest }

-- two readings of a source are one
read_twice : (bytes : List ℕ) (ts us : List Token) (names others : List (List ℕ)) (a : AreTokens bytes ts names) (b : AreTokens bytes us others) → IsSameWay a.front b.front names others a.place b.place a.rest b.rest
read_twice bytes ts us names others a b =
    same_way [] 0 bytes a.front b.front names others a.place b.place a.rest b.rest a.leads b.leads (stops_over names a.place a.rest a.over) (stops_over others b.place b.rest b.over)

-- so the tokens are the same
pub one_tokens : (bytes : List ℕ) (ts us : List Token) (names others : List (List ℕ)) → AreTokens bytes ts names → AreTokens bytes us others → ts ≡ us
one_tokens bytes ts us names others a b =
    a.all ∙ ap (λ l. l ++ end_at (length bytes) ∷ []) (read_twice bytes ts us names others a b).tokens ∙ sym b.all

-- and the names
pub one_names : (bytes : List ℕ) (ts us : List Token) (names others : List (List ℕ)) → AreTokens bytes ts names → AreTokens bytes us others → names ≡ others
one_names bytes ts us names others a b = (read_twice bytes ts us names others a b).names

-- two refusals are one
pub one_refusal : (bytes : List ℕ) (e f : TokenError) → IsRefused bytes e → IsRefused bytes f → e ≡ f
one_refusal bytes e f a b =
    let way = same_way [] 0 bytes a.front b.front a.names b.names a.place b.place a.rest b.rest a.leads b.leads (stops_fault a.names a.place a.rest e a.fault) (stops_fault b.names b.place b.rest f b.fault) in
    let same : kind_at a.names (a.place + blanks a.rest) (first_text a.rest) ≡ kind_at b.names (b.place + blanks b.rest) (first_text b.rest) =
    ap (λ n. kind_at n (a.place + blanks a.rest) (first_text a.rest)) way.names
    ∙ ap (λ p. kind_at b.names (p + blanks a.rest) (first_text a.rest)) way.place
    ∙ ap (λ r. kind_at b.names (b.place + blanks r) (first_text r)) way.rest in
    cc (same, a.fault, b.fault)

-- and a source that is read is not refused
pub never_both : (bytes : List ℕ) (ts : List Token) (names : List (List ℕ)) (e : TokenError) → AreTokens bytes ts names → IsRefused bytes e → ⊥
never_both bytes ts names e a b =
    let way = same_way [] 0 bytes a.front b.front names b.names a.place b.place a.rest b.rest a.leads b.leads (stops_over names a.place a.rest a.over) (stops_fault b.names b.place b.rest e b.fault) in
    let some : 0 < length (first_text b.rest) = b.some in
    omega (arith, ap (λ r. length (first_text r)) way.rest, ap length a.over)
