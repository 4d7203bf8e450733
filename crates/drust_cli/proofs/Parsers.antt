-- The parser as it grows, and what `clap` asks of it.
use Rattle.std.proofs.Common.{◌≡◌, ◌∙◌, ◌<◌, ◌+◌, ◌&&◌, ℕ, true, false, List, [], ◌∷◌, ◌++◌, map, take, length, get_or, Result, Ok, Err, IfOk, IfErr, refl, sym, ap, ap₂, subst, inl, inr, not, count_by, is_some}
use Rattle.std.specs.List.{list_all, list_any}
use Rattle.std.proofs.lemmas.List.{take_more, map-append}
use Rattle.clap.specs.Words.{App, Rule, Text, fault_of, found_of, is_simple_and_free, kind_of, matches_of, rows_of, with_rule, FailsBy, IsAmong, Kinds}
use Rattle.clap.specs.Simple.{HasMatchesOf, built, filled, filled_from, is_ready, is_ready_leaf, is_simple}
use Rattle.clap.specs.Faults.{is_free_app}
use Rattle.clap.specs.Walk.{is_early_multiple}
use Rattle.clap.specs.declared.error.Error.{Error}
use Rattle.clap.specs.declared.error.kind.ErrorKind.TheVariants as kind
use Rattle.clap.specs.declared.parser.matches.ArgMatches.{ArgMatches}
use Rattle.drust_cli.specs.Parser.{option_rule, parser_of, with_rules}

-- one name more
pub one_more : {X : Type 0} (text : X → Text) (names : List X) (i : ℕ) (d : X) (a b : App) → i < length names → a ≡ parser_of (map text (take i names))
    → b ≡ with_rule a (option_rule (text (get_or names i d))) → b ≡ parser_of (map text (take (i + 1) names))
one_more text names i d a b lt is made =
    let x = text (get_or names i d) in
    let more : map text (take (i + 1) names) ≡ map text (take i names) ++ x ∷ [] =
    ap (map text) (take_more names i d lt) ∙ map-append text (take i names) (get_or names i d ∷ []) in
    made
    ∙ ap (λ p. with_rule p (option_rule x)) is
    ∙ ap with_rules (sym (map-append option_rule (map text (take i names)) (x ∷ [])))
    ∙ ap parser_of (sym more)

-- the rules once the parser is built
abbrev pub rule : Text → Rule
rule name = filled (option_rule name)

pub filled_rules : (names : List Text) (i : ℕ) → filled_from i (map option_rule names) ≡ map rule names
filled_rules [] i = refl
filled_rules (n ∷ ns) i = ap (λ rs. rule n ∷ rs) (filled_rules ns i)

-- the parser once it is built
abbrev pub whole : List Rule → App
whole rs = record { top = record (built (parser_of [])).top { rules = rs }; subs = [] }

pub built_is : (names : List Text) → built (parser_of names) ≡ whole (map rule names)
built_is names = ap whole (filled_rules names 1)

all_simple : (names : List Text) → list_all (λ a. a.is_simple) (map option_rule names) ≡ true
all_simple [] = refl
all_simple (n ∷ ns) = all_simple ns

all_simple_rules : (names : List Text) → list_all (λ a. a.is_simple) (map rule names) ≡ true
all_simple_rules [] = refl
all_simple_rules (n ∷ ns) = all_simple_rules ns

all_free_rules : (names : List Text) → list_all (λ a. a.is_free) (map rule names) ≡ true
all_free_rules [] = refl
all_free_rules (n ∷ ns) = all_free_rules ns

none_early : (k : ℕ) (names : List Text) → list_any (is_early_multiple k) (map rule names) ≡ false
none_early k [] = refl
none_early k (n ∷ ns) = none_early k ns

pub simple_parser : (names : List Text) → is_simple (parser_of names) ≡ true
simple_parser names =
    let several : ℕ = count_by (λ (a : Rule). is_some a.index) (map rule names) in
    ap₂ (λ a b. a && b) (ap (λ b. b && true) (all_simple names))
    (ap (λ (a : App). is_ready a.top && list_all is_ready_leaf a.subs) (built_is names)
    ∙ ap₂ (λ s o. (s && not o) && true) (all_simple_rules names) (none_early several names))

pub free_parser : (names : List Text) → is_simple_and_free (parser_of names) ≡ true
free_parser names =
    ap₂ (λ a b. a && b) (simple_parser names) (ap is_free_app (built_is names) ∙ ap (λ b. b && true) (all_free_rules names))

pub rows_found : {a : App} (names words : List Text) (r : Result ArgMatches Error) → a ≡ parser_of names → IfOk r (HasMatchesOf a words) → IfOk r (λ m. rows_of (found_of m) ≡ matches_of (parser_of names) words)
rows_found names words (Ok m) is has = (subst (λ b. HasMatchesOf b words m) is has (simple_parser names)).0
rows_found names words (Err e) is has = tt

fails : {a : App} (names words : List Text) (r : Result ArgMatches Error) → a ≡ parser_of names → (is_simple_and_free a ≡ true → FailsBy (fault_of a words) r) → FailsBy (fault_of (parser_of names) words) r
fails names words r is kinds = subst (λ b. is_simple_and_free b ≡ true → FailsBy (fault_of b words) r) is kinds (free_parser names)

ok_taken : (kinds : Kinds) (r : Result ArgMatches Error) → FailsBy kinds r → IfOk r (λ _. kinds ≡ [])
ok_taken kinds (Ok m) f = f
ok_taken kinds (Err e) f = tt

none_among : (e : Error) (kinds : Kinds) → kinds ≡ [] → IsAmong (kind_of e) kinds → kind_of e ≡ kind.OutOfMemory
none_among e kinds none among = absurd (subst (IsAmong (kind_of e)) none among)

err_refused : (kinds : Kinds) (r : Result ArgMatches Error) → FailsBy kinds r → IfErr r (λ e. kinds ≡ [] → kind_of e ≡ kind.OutOfMemory)
err_refused kinds (Ok m) f = tt
err_refused kinds (Err e) (inl out) = λ _. out
err_refused kinds (Err e) (inr among) = λ none. none_among e kinds none among

pub words_taken : {a : App} (names words : List Text) (r : Result ArgMatches Error) → a ≡ parser_of names → (is_simple_and_free a ≡ true → FailsBy (fault_of a words) r)
    → IfOk r (λ _. fault_of (parser_of names) words ≡ [])
words_taken names words r is kinds = ok_taken _ r (fails names words r is kinds)

pub words_refused : {a : App} (names words : List Text) (r : Result ArgMatches Error) → a ≡ parser_of names → (is_simple_and_free a ≡ true → FailsBy (fault_of a words) r)
    → IfErr r (λ e. fault_of (parser_of names) words ≡ [] → kind_of e ≡ kind.OutOfMemory)
words_refused names words r is kinds = err_refused _ r (fails names words r is kinds)
