-- What the words ask for, by what `clap` found.
use Rattle.std.proofs.Common.{◌≡◌, ◌∙◌, ◌&&◌, Bool, true, false, cond, List, [], ◌∷◌, Option, Some, None, Result, IfOk, IfErr, refl, sym, ap, true≢false, find, slice_get}
use Rattle.std.specs.Prelude.{option_and_then, option_map, ok_or}
use Rattle.std.specs.Option.{MatchOption}
use Rattle.std.specs.List.{list_all}
use Rattle.std.specs.Str.{bytes_eq}
use Rattle.clap.specs.Words.{Row, first_of, first_value, rows_of, matches_of, fault_of}
use Rattle.clap.specs.declared.parser.matches.Found.{Found}
use Rattle.clap.proofs.WalkLemmas.{first_value-rows}
use Rattle.drust_cli.specs.Asked.{asked_behind, asked_with, names_of, with_given}
use Rattle.drust_cli.specs.Parser.{parser_of}
use Rattle.drust_cli.specs.Reading.{Given, Text, is_known, value_of}
use Rattle.drust_cli.specs.Words.{is_clean}
use Rattle.drust_cli.specs.declared.asked.Asked.{Asked}
use Rattle.drust_cli.specs.declared.asked.Command.{Command}
use Rattle.drust_cli.specs.declared.asked.Command.TheVariants as command
use Rattle.drust_cli.proofs.Cleaned.{clean_read, read, unclean_read}
use Rattle.drust_cli.proofs.Walks.{AllClean, IsFault, row, rows, reading}

at_first : (p : Text × Text) (ps : Given) (id : Text) (b : Bool) → option_and_then (λ (r : Row). slice_get r.values 0) (find (λ r. bytes_eq r.id id) (rows ps)) ≡ value_of id ps
    → option_and_then (λ (r : Row). slice_get r.values 0) (cond b (Some (row p)) (find (λ r. bytes_eq r.id id) (rows ps))) ≡ option_map (λ (q : Text × Text). q.1) (cond b (Some p) (find (λ q. bytes_eq q.0 id) ps))
at_first p ps id true e = refl
at_first p ps id false e = e

value_rows : (given : Given) (id : Text) → first_of id (rows given) ≡ value_of id given
value_rows [] id = refl
value_rows (p ∷ ps) id = at_first p ps id (bytes_eq p.0 id) (value_rows ps id)

both : (a b : Bool) → (a && b) ≡ true → (a ≡ true) × (b ≡ true)
both true b e = (refl, e)
both false b e = absurd (true≢false (sym e))

all_clean : (ws : List Text) → list_all is_clean ws ≡ true → AllClean ws
all_clean [] e = tt
all_clean (w ∷ ws) e = ((both (is_clean w) _ e).0, all_clean ws (both (is_clean w) _ e).1)

value_found : (f : Found) (given : Given) → rows_of f ≡ rows given → (id : Text) → first_value f id ≡ value_of id given
value_found f given is id = first_value-rows f id ∙ ap (first_of id) is ∙ value_rows given id

found_as : (c : Command) (words : List Text) (f : Found) (o : Option Given) → MatchOption o (IsFault (fault_of (parser_of (names_of c)) words)) (λ given. (fault_of (parser_of (names_of c)) words ≡ []) × (matches_of (parser_of (names_of c)) words ≡ rows given))
    → fault_of (parser_of (names_of c)) words ≡ [] → rows_of f ≡ matches_of (parser_of (names_of c)) words → asked_with c (first_value f) ≡ with_given c o
found_as c words f None reads none is = absurd (reads none)
found_as c words f (Some given) reads none is = ap (asked_with c) (λ i id. value_found f given (is ∙ reads.1) id i)

pub asked_found : (c : Command) (words : List Text) (f : Found) → list_all is_clean words ≡ true → fault_of (parser_of (names_of c)) words ≡ [] → rows_of f ≡ matches_of (parser_of (names_of c)) words
    → asked_with c (first_value f) ≡ asked_behind c words
asked_found c words f clean none is =
    found_as c words f (read (names_of c) None words []) (reading (names_of c) words (all_clean words clean)) none is ∙ sym (ap (with_given c) (clean_read (names_of c) words clean None []))

none_as : (c : Command) (words : List Text) (o : Option Given) → MatchOption o (IsFault (fault_of (parser_of (names_of c)) words)) (λ given. (fault_of (parser_of (names_of c)) words ≡ []) × (matches_of (parser_of (names_of c)) words ≡ rows given))
    → IsFault (fault_of (parser_of (names_of c)) words) → with_given c o ≡ None
none_as c words None reads bad = refl
none_as c words (Some given) reads bad = absurd (bad reads.0)

pub asked_refused : (c : Command) (words : List Text) → list_all is_clean words ≡ true → IsFault (fault_of (parser_of (names_of c)) words) → asked_behind c words ≡ None
asked_refused c words clean bad =
    ap (with_given c) (clean_read (names_of c) words clean None [])
    ∙ none_as c words (read (names_of c) None words []) (reading (names_of c) words (all_clean words clean)) bad

-- no option has an empty name
unnamed : (c : Command) → is_known (names_of c) [] ≡ false
unnamed command.Run = refl
unnamed command.Replay = refl
unnamed command.Gen = refl
unnamed command.Load = refl

pub asked_unclean : (c : Command) (words : List Text) → list_all is_clean words ≡ false → asked_behind c words ≡ None
asked_unclean c words e = ap (with_given c) (unclean_read (names_of c) (unnamed c) words e None [])

-- what `ok_or` passes on
pub ok_asked : {E : Type 0} (o a : Option Asked) (e : E) (r : Result Asked E) → r ≡ ok_or o e → o ≡ a → IfOk r (λ x. a ≡ Some x)
ok_asked None a e r is same = rw is tt
ok_asked (Some x) a e r is same = rw is (sym same)

pub bad_asked : {E : Type 0} (o a : Option Asked) (e : E) (P : E → Type 0) (r : Result Asked E) → r ≡ ok_or o e → o ≡ a → IfErr r (λ x. P x → a ≡ None)
bad_asked None a e P r is same = rw is (λ _. sym same)
bad_asked (Some x) a e P r is same = rw is tt
