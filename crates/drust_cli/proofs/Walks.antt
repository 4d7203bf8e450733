-- What `clap`'s walk makes of words, by the reading of the grammar.
use Rattle.std.proofs.Common.{◌≡◌, ◌∙◌, ℕ, ◌==◌, ◌&&◌, ◌||◌, Bool, true, false, cond, not, List, [], ◌∷◌, ◌++◌, map, Option, Some, None, is_some, refl, sym, ap, ap₂, subst, true≢false, fold, nat_lt}
use Rattle.std.specs.List.{list_any}
use Rattle.std.specs.Str.{bytes_eq}
use Rattle.std.specs.Option.{option_map_or, MatchOption}
use Rattle.clap.specs.declared.error.kind.ErrorKind.TheVariants as kind
use Rattle.std.proofs.lemmas.Slice.Eq.{bytes_eq-Decides}
use borrow.Author.Tests.{eqb-true}
use Rattle.clap.specs.Lexer.{long_of, short_of}
use Rattle.clap.specs.Walk.{rows_after, Held, Row, Rule, Step, Text, Walk, idle, option, next, trailing, arg_by_id, arg_by_index, arg_by_long, at_row, finished, has_row, nothing_held, reading_by, settled, settled_rows, option_word, reacted, used_by_id, walk, walked, long_word, long_or_other, short_or_plain, after_step, after_flag, long_met, more_values, with_default, used, with_values}
use Rattle.clap.specs.Simple.{App, Shape, built, entered, matches_of, names_of}
use Rattle.clap.specs.Kinds.{Kinds, check_kinds, or_else}
use Rattle.clap.specs.Takes.{is_given}
use Rattle.clap.specs.Faults.{fault_of, built_fault, settle_fault, step_fault, flag_word_fault, turn_fault, walk_fault, defaults_fault, long_fault, use_fault, bundle_fault, given_default_fault, entered_fault, check_fault}
use Rattle.clap.specs.declared.parser.matches.ValueSource.TheVariants.{CommandLine}
use Rattle.clap.specs.declared.error.kind.ErrorKind.{ErrorKind}
use Rattle.drust_cli.specs.Parser.{parser_of}
use Rattle.drust_cli.specs.Words.{is_clean, second_hyphen}
use Rattle.drust_cli.specs.Reading.{Given, has, is_known, put, put_or_wait}
use Rattle.drust_cli.proofs.Cleaned.{flag, read}
use Rattle.drust_cli.proofs.Parsers.{built_is, rule, whole}

-- ---- the rules of the options

abbrev pub rules : List Text → List Rule
rules names = map rule names

same : (m n : Text) → bytes_eq m n ≡ true → m ≡ n
same m n e = (bytes_eq-Decides m n).0 e

by_long_at : (m : Text) (ms : List Text) (name : Text) (rest : Option Rule) → rest ≡ cond (is_known ms name) (Some (rule name)) None → (b : Bool) → bytes_eq m name ≡ b
    → cond (bytes_eq m name || false) (Some (rule m)) rest ≡ cond (bytes_eq m name || is_known ms name) (Some (rule name)) None
by_long_at m ms name rest is true e = rw e (ap (λ t. Some (rule t)) (same m name e))
by_long_at m ms name rest is false e = rw e is

pub by_long : (names : List Text) (name : Text) → arg_by_long (rules names) name ≡ cond (is_known names name) (Some (rule name)) None
by_long [] name = refl
by_long (m ∷ ms) name = by_long_at m ms name _ (by_long ms name) (bytes_eq m name) refl

by_id_at : (m : Text) (ms : List Text) (name : Text) (rest : Option Rule) → rest ≡ cond (is_known ms name) (Some (rule name)) None → (b : Bool) → bytes_eq m name ≡ b
    → cond (bytes_eq m name) (Some (rule m)) rest ≡ cond (bytes_eq m name || is_known ms name) (Some (rule name)) None
by_id_at m ms name rest is true e = rw e (ap (λ t. Some (rule t)) (same m name e))
by_id_at m ms name rest is false e = rw e is

pub by_id : (names : List Text) (name : Text) → arg_by_id (rules names) name ≡ cond (is_known names name) (Some (rule name)) None
by_id [] name = refl
by_id (m ∷ ms) name = by_id_at m ms name _ (by_id ms name) (bytes_eq m name) refl

pub by_index : (names : List Text) (i : ℕ) → arg_by_index (rules names) i ≡ None
by_index [] i = refl
by_index (m ∷ ms) i = by_index ms i

-- ---- rows

abbrev pub row : Text × Text → Row
row p = record { id = p.0; values = p.1 ∷ []; count = None; source = Some CommandLine; reading = reading_by (rule p.0) }

abbrev pub rows : Given → List Row
rows given = map row given

pub has_rows : (given : Given) (name : Text) → has_row name (rows given) ≡ has name given
has_rows [] name = refl
has_rows (p ∷ ps) name = ap (λ b. bytes_eq p.0 name || b) (has_rows ps name)

pub rows_more : (given : Given) (p : Text × Text) → rows (given ++ p ∷ []) ≡ rows given ++ row p ∷ []
rows_more [] p = refl
rows_more (q ∷ qs) p = ap (λ rs. row q ∷ rs) (rows_more qs p)

at_absent_at : (name : Text) (change : Row → List Row) (missing : List Row) (p : Text × Text) (ps : Given) (rest : List Row) → (bytes_eq p.0 name || has name ps) ≡ false
    → (has name ps ≡ false → rest ≡ rows ps ++ missing) → (b : Bool) → bytes_eq p.0 name ≡ b
    → cond (bytes_eq p.0 name) (change (row p) ++ rows ps) (row p ∷ rest) ≡ row p ∷ (rows ps ++ missing)
at_absent_at name change missing p ps rest e is true h = absurd (true≢false (sym (ap (λ b. b || has name ps) h) ∙ e))
at_absent_at name change missing p ps rest e is false h = rw h (ap (λ rs. row p ∷ rs) (is (sym (ap (λ b. b || has name ps) h) ∙ e)))

pub at_absent : (name : Text) (change : Row → List Row) (missing : List Row) (given : Given) → has name given ≡ false → at_row name change missing (rows given) ≡ rows given ++ missing
at_absent name change missing [] e = refl
at_absent name change missing (p ∷ ps) e = at_absent_at name change missing p ps _ e (at_absent name change missing ps) (bytes_eq p.0 name) refl

append_none : (given : Given) → rows given ++ [] ≡ rows given
append_none [] = refl
append_none (p ∷ ps) = ap (λ rs. row p ∷ rs) (append_none ps)

-- ---- words

abbrev pub hyphens : Text
hyphens = 45 ∷ 45 ∷ []

clean_rest : (xs : Text) → second_hyphen xs ≡ true → (bytes_eq (45 ∷ xs) hyphens ≡ false) × (long_of (45 ∷ xs) ≡ None → short_of (45 ∷ xs) ≡ None)
clean_rest [] e = absurd (true≢false (sym e))
clean_rest (y ∷ []) e = go (y == 45) refl
  where
    go : (b : Bool) → (y == 45) ≡ b → (bytes_eq (45 ∷ y ∷ []) hyphens ≡ false) × (long_of (45 ∷ y ∷ []) ≡ None → short_of (45 ∷ y ∷ []) ≡ None)
    go true h = absurd (true≢false (sym (rw h at e)))
    go false h = absurd (true≢false (sym (rw h at e)))
clean_rest (y ∷ z ∷ zs) e = go (y == 45) refl
  where
    go : (b : Bool) → (y == 45) ≡ b → (bytes_eq (45 ∷ y ∷ z ∷ zs) hyphens ≡ false) × (long_of (45 ∷ y ∷ z ∷ zs) ≡ None → short_of (45 ∷ y ∷ z ∷ zs) ≡ None)
    go true h = (rw h refl, λ none. rw h refl)
    go false h = absurd (true≢false (sym (rw h at e)))

clean_first : (x : ℕ) (xs : Text) (b : Bool) → (x == 45) ≡ b → cond b (second_hyphen xs) true ≡ true → (bytes_eq (x ∷ xs) hyphens ≡ false) × (long_of (x ∷ xs) ≡ None → short_of (x ∷ xs) ≡ None)
clean_first x xs true h e = rw (eqb-true x 45 h) (clean_rest xs e)
clean_first x xs false h e = (rw h refl, λ none. rw h refl)

pub clean : (w : Text) → is_clean w ≡ true → (bytes_eq w hyphens ≡ false) × (long_of w ≡ None → short_of w ≡ None)
clean [] e = (refl, λ none. refl)
clean (x ∷ xs) e = clean_first x xs (x == 45) refl e

-- ---- the walk

abbrev pub shape : List Text → Shape
shape names = record (built (parser_of [])).top { rules = rules names }

abbrev pub at : Held → Walk
at h = record { held = h; waiting = idle; position = 1; is_trailing = false; stopped = None }

abbrev pub at_option : Text → Held → Walk
at_option name h = record { held = h; waiting = option name; position = 1; is_trailing = false; stopped = None }

abbrev pub IsFault : Kinds → Type 0
IsFault kinds = kinds ≡ [] → ⊥

fault_here : (k : ErrorKind) (ks : Kinds) → IsFault (k ∷ ks)
fault_here k ks e = cc

first_fault : (a b : Kinds) → IsFault a → IsFault (or_else a b)
first_fault [] b f e = f refl
first_fault (k ∷ ks) b f e = f e

second_fault : (a b : Kinds) → a ≡ [] → IsFault b → IsFault (or_else a b)
second_fault [] b is f = f
second_fault (k ∷ ks) b is f = absurd (fault_here k ks is)

-- the faults of the words from a place on, and of what is pending at their end
abbrev pub end_of : List Text → Walk → List Text → Held
end_of names w ws = (fold (walked (rules names) []) w ws).held

abbrev pub faults : List Text → Walk → List Text → Kinds
faults names w ws = or_else (walk_fault (shape names) [] w ws) (settle_fault (rules names) false (end_of names w ws))

abbrev pub Reads : List Text → Option Given → Walk → List Text → Type 0
Reads names None w ws = IsFault (faults names w ws)
Reads names (Some given) w ws = (faults names w ws ≡ []) × ((settled (rules names) (end_of names w ws)).rows ≡ rows given)

abbrev pub turn_of : List Text → Walk → Text → Kinds
turn_of names w word = turn_fault (shape names) [] w word

later_fault : (names : List Text) (w : Walk) (word : Text) (ws : List Text) → IsFault (turn_of names w word) → IsFault (faults names w (word ∷ ws))
unfolding walk_fault
later_fault names w word ws f = first_fault (or_else (turn_of names w word) (walk_fault (shape names) [] (walked (rules names) [] w word) ws)) _ (first_fault (turn_of names w word) _ f)

no_fault : (names : List Text) (w after : Walk) (word : Text) (ws : List Text) → turn_of names w word ≡ [] → walked (rules names) [] w word ≡ after → faults names w (word ∷ ws) ≡ faults names after ws
unfolding walk_fault
no_fault names w after word ws none is =
    ap (λ t. or_else (or_else t (walk_fault (shape names) [] (walked (rules names) [] w word) ws)) (settle_fault (rules names) false (end_of names (walked (rules names) [] w word) ws))) none
    ∙ ap (λ v. faults names v ws) is

pub step : (names : List Text) (o : Option Given) (w after : Walk) (word : Text) (ws : List Text) → turn_of names w word ≡ [] → walked (rules names) [] w word ≡ after
    → Reads names o after ws → Reads names o w (word ∷ ws)
step names None w after word ws none is r = λ e. r (sym (no_fault names w after word ws none is) ∙ e)
step names (Some given) w after word ws none is r =
    (no_fault names w after word ws none is ∙ r.0, ap (λ v. (settled (rules names) (end_of names v ws)).rows) is ∙ r.1)

-- ---- a word where nothing waits

abbrev met : List Text → Held → Text → Option (Text × Option Text) → Held × Step
met names h word l = long_or_other (rules names) idle word l h

idle_turn : (names : List Text) (h : Held) (word : Text) → is_clean word ≡ true
    → turn_of names (at h) word ≡ or_else (flag_word_fault (rules names) false (long_of word) word h) (step_fault (shape names) 1 (met names h word (long_of word)).0 (met names h word (long_of word)).1)
idle_turn names h word e =
    ap (λ b. or_else (cond b [] (flag_word_fault (rules names) false (long_of word) word h))
    (step_fault (shape names) 1 (cond b (h, trailing 1) (met names h word (long_of word))).0 (cond b (h, trailing 1) (met names h word (long_of word))).1)) (clean word e).0

idle_walked : (names : List Text) (h : Held) (word : Text) → is_clean word ≡ true
    → walked (rules names) [] (at h) word ≡ after_step (rules names) word (at h) (met names h word (long_of word)).0 (met names h word (long_of word)).1
unfolding walked
idle_walked names h word e =
    ap (λ b. after_step (rules names) word (at h) (cond b (h, trailing 1) (met names h word (long_of word))).0 (cond b (h, trailing 1) (met names h word (long_of word))).1) (clean word e).0

idle_plain : (names : List Text) (h : Held) (word : Text) → is_clean word ≡ true → long_of word ≡ None → IsFault (turn_of names (at h) word)
idle_plain names h word e none =
    let short : short_of word ≡ None = (clean word e).1 none in
    let T : Option (Text × Option Text) → Option Text → Kinds =
    λ l s. or_else (option_map_or (λ p. long_fault (rules names) false (arg_by_long (rules names) p.0) p.1 h) l (option_map_or (λ flags. bundle_fault (rules names) false flags h) s []))
    (step_fault (shape names) 1 (short_or_plain (rules names) idle word s h).0 (short_or_plain (rules names) idle word s h).1) in
    subst IsFault (sym (idle_turn names h word e)) (rw (none, short, by_index names 1) (λ bad. cc))

-- the option of a long word
idle_long : (names : List Text) (h : Held) (word name : Text) (v : Option Text) → is_clean word ≡ true → long_of word ≡ Some (name, v)
    → turn_of names (at h) word ≡ or_else (long_fault (rules names) false (arg_by_long (rules names) name) v h)
    (step_fault (shape names) 1 (long_word (rules names) idle word name v h).0 (long_word (rules names) idle word name v h).1)
idle_long names h word name v e is =
    idle_turn names h word e ∙ ap (λ l. or_else (flag_word_fault (rules names) false l word h) (step_fault (shape names) 1 (met names h word l).0 (met names h word l).1)) is

idle_long_walked : (names : List Text) (h : Held) (word name : Text) (v : Option Text) → is_clean word ≡ true → long_of word ≡ Some (name, v)
    → walked (rules names) [] (at h) word ≡ after_step (rules names) word (at h) (long_word (rules names) idle word name v h).0 (long_word (rules names) idle word name v h).1
idle_long_walked names h word name v e is =
    idle_walked names h word e ∙ ap (λ l. after_step (rules names) word (at h) (met names h word l).0 (met names h word l).1) is

known_long : (names : List Text) (name : Text) (b : Bool) → is_known names name ≡ b → arg_by_long (rules names) name ≡ cond b (Some (rule name)) None
known_long names name b e = by_long names name ∙ ap (λ x. cond x (Some (rule name)) None) e

known_id : (names : List Text) (name : Text) (b : Bool) → is_known names name ≡ b → arg_by_id (rules names) name ≡ cond b (Some (rule name)) None
known_id names name b e = by_id names name ∙ ap (λ x. cond x (Some (rule name)) None) e

-- the turn and the walk at an option that is found or not

found_turn : (names : List Text) (h : Held) (word name : Text) (v : Option Text) (a : Option Rule) → is_clean word ≡ true → long_of word ≡ Some (name, v) → arg_by_long (rules names) name ≡ a
    → turn_of names (at h) word ≡ or_else (long_fault (rules names) false a v h)
    (step_fault (shape names) 1 (after_flag (rules names) idle word (long_met (rules names) a v h).0 (long_met (rules names) a v h).1).0 (after_flag (rules names) idle word (long_met (rules names) a v h).0 (long_met (rules names) a v h).1).1)
found_turn names h word name v a e is found =
    idle_long names h word name v e is
    ∙ ap (λ r. or_else (long_fault (rules names) false r v h)
    (step_fault (shape names) 1 (after_flag (rules names) idle word (long_met (rules names) r v h).0 (long_met (rules names) r v h).1).0 (after_flag (rules names) idle word (long_met (rules names) r v h).0 (long_met (rules names) r v h).1).1)) found

found_walked : (names : List Text) (h : Held) (word name : Text) (v : Option Text) (a : Option Rule) → is_clean word ≡ true → long_of word ≡ Some (name, v) → arg_by_long (rules names) name ≡ a
    → walked (rules names) [] (at h) word ≡ after_step (rules names) word (at h) (after_flag (rules names) idle word (long_met (rules names) a v h).0 (long_met (rules names) a v h).1).0 (after_flag (rules names) idle word (long_met (rules names) a v h).0 (long_met (rules names) a v h).1).1
found_walked names h word name v a e is found =
    idle_long_walked names h word name v e is
    ∙ ap (λ r. after_step (rules names) word (at h) (after_flag (rules names) idle word (long_met (rules names) r v h).0 (long_met (rules names) r v h).1).0 (after_flag (rules names) idle word (long_met (rules names) r v h).0 (long_met (rules names) r v h).1).1) found

-- ---- one use

and_true : (b : Bool) → (b && true) ≡ b
and_true true = refl
and_true false = refl

use_of : (name v : Text) (given : Given) (R : List Row) → R ≡ rows given → use_fault false (rule name) (v ∷ []) R ≡ or_else (cond (has name given) (kind.ArgumentConflict ∷ []) []) []
use_of name v given R is =
    ap (λ b. or_else (cond b (kind.ArgumentConflict ∷ []) []) []) (and_true (has_row name R) ∙ ap (has_row name) is ∙ has_rows given name)

use_passes : (name v : Text) (given : Given) (R : List Row) → R ≡ rows given → has name given ≡ false → use_fault false (rule name) (v ∷ []) R ≡ []
use_passes name v given R is absent = use_of name v given R is ∙ ap (λ b. or_else (cond b (kind.ArgumentConflict ∷ []) []) []) absent

use_again : (name v : Text) (given : Given) (R : List Row) → R ≡ rows given → has name given ≡ true → IsFault (use_fault false (rule name) (v ∷ []) R)
use_again name v given R is there =
    subst IsFault (sym (use_of name v given R is ∙ ap (λ b. or_else (cond b (kind.ArgumentConflict ∷ []) []) []) there)) (fault_here kind.ArgumentConflict [])

used_rows : (name v : Text) (given : Given) (R : List Row) → R ≡ rows given → has name given ≡ false → used (rule name) (v ∷ []) R ≡ rows (given ++ (name, v) ∷ [])
used_rows name v given R is absent =
    ap (used (rule name) (v ∷ [])) is
    ∙ ap (with_values name (reading_by (rule name)) CommandLine (v ∷ [])) (at_absent name (λ _. []) [] given absent ∙ append_none given)
    ∙ at_absent name (more_values CommandLine (v ∷ [])) (row (name, v) ∷ []) given absent
    ∙ sym (rows_more given (name, v))

-- ---- what is pending

-- what is held passes, and comes to the rows of what was given
pub record Good (names : List Text) (h : Held) (given : Given) : Type 0 where
  pub passes : settle_fault (rules names) false h ≡ []
  pub is : (settled (rules names) h).rows ≡ rows given

abbrev pub AllClean : List Text → Type 0
AllClean [] = Unit {0}
AllClean (w ∷ ws) = (is_clean w ≡ true) × AllClean ws

-- a fault of what is pending stays
bad_word : (names : List Text) (h : Held) (word : Text) → is_clean word ≡ true → IsFault (settle_fault (rules names) false h) → (l : Option (Text × Option Text)) → long_of word ≡ l → IsFault (turn_of names (at h) word)
bad_word names h word e bad None is = idle_plain names h word e is
bad_word names h word e bad (Some p) is = go (is_known names p.0) refl p.1 refl
  where
    go : (b : Bool) → is_known names p.0 ≡ b → (v : Option Text) → p.1 ≡ v → IsFault (turn_of names (at h) word)
    go false unknown v at_v =
        subst IsFault (sym (found_turn names h word p.0 v None e (is ∙ ap (λ x. Some (p.0, x)) at_v) (known_long names p.0 false unknown))) (λ bad. cc)
    go true known (Some v) at_v =
        subst IsFault (sym (found_turn names h word p.0 (Some v) (Some (rule p.0)) e (is ∙ ap (λ x. Some (p.0, x)) at_v) (known_long names p.0 true known)))
        (first_fault _ [] (first_fault _ (use_fault false (rule p.0) (v ∷ []) (settled (rules names) h).rows) bad))
    go true known None at_v =
        subst IsFault (sym (found_turn names h word p.0 None (Some (rule p.0)) e (is ∙ ap (λ x. Some (p.0, x)) at_v) (known_long names p.0 true known)))
        (first_fault _ [] bad)

bad_rest : (names : List Text) (h : Held) (ws : List Text) → AllClean ws → IsFault (settle_fault (rules names) false h) → IsFault (faults names (at h) ws)
unfolding walk_fault
bad_rest names h [] clean bad = bad
bad_rest names h (word ∷ ws) clean bad = later_fault names (at h) word ws (bad_word names h word clean.0 bad (long_of word) refl)

-- the walk where an option waits for its value
abbrev pub pending : Text → List Text → List Row → ℕ → Held
pending name values R k = record { rows = R; pending = Some (name, values); skip = k }

settle_of : (names : List Text) (name : Text) (values : List Text) (R : List Row) (k : ℕ) → is_known names name ≡ true
    → settle_fault (rules names) false (pending name values R k) ≡ use_fault false (rule name) values R
settle_of names name values R k known = ap (λ o. option_map_or (λ a. use_fault false a values R) o []) (known_id names name true known)

settled_of : (names : List Text) (name : Text) (values : List Text) (R : List Row) (k : ℕ) → is_known names name ≡ true
    → (settled (rules names) (pending name values R k)).rows ≡ used (rule name) values R
settled_of names name values R k known = ap (λ o. used_by_id o values R) (known_id names name true known)

no_value : (names : List Text) (name : Text) (R : List Row) (k : ℕ) → is_known names name ≡ true → IsFault (settle_fault (rules names) false (pending name [] R k))
no_value names name R k known = subst IsFault (sym (settle_of names name [] R k known)) (λ bad. cc)

-- ---- the two cases of a word

abbrev pub Idle : List Text → (Option Text → Given → Option Given) → List Text → Type 0
Idle names N ws = (given : Given) (h : Held) → Good names h given → Reads names (N None given) (at h) ws

abbrev pub Waits : List Text → (Option Text → Given → Option Given) → List Text → Type 0
Waits names N ws = (given : Given) (name : Text) (R : List Row) (k : ℕ) → R ≡ rows given → is_known names name ≡ true
    → Reads names (N (Some name) given) (at_option name (pending name [] R k)) ws

-- the rows of a value that is put, whether it is used at once or pends
put_used : (names : List Text) (N : Option Text → Given → Option Given) (ws : List Text) (given : Given) (name v : Text) (h : Held) → has name given ≡ false → h.pending ≡ None → h.rows ≡ rows (given ++ (name, v) ∷ [])
    → Idle names N ws → Reads names (N None (given ++ (name, v) ∷ [])) (at h) ws
put_used names N ws given name v h absent none is idle_rest =
    idle_rest (given ++ (name, v) ∷ []) h (record {
      passes = ap (λ p. option_map_or (λ q. option_map_or (λ a. use_fault false a q.1 h.rows) (arg_by_id (rules names) q.0) []) p []) none;
      is = ap (λ p. settled_rows (rules names) p h.rows) none ∙ is;
    })

idle_word : (names : List Text) (N : Option Text → Given → Option Given) (word : Text) (ws : List Text) (given : Given) (h : Held) → is_clean word ≡ true → AllClean ws → Good names h given
    → Idle names N ws → Waits names N ws → (l : Option (Text × Option Text)) → long_of word ≡ l → Reads names (flag names l given N) (at h) (word ∷ ws)
idle_word names N word ws given h e clean good idle_rest waits_rest None is = later_fault names (at h) word ws (idle_plain names h word e is)
idle_word names N word ws given h e clean good idle_rest waits_rest (Some p) is = by_known (is_known names p.0) refl
  where
    by_value : is_known names p.0 ≡ true → (v : Option Text) → p.1 ≡ v → Reads names (put_or_wait p.0 v given N) (at h) (word ∷ ws)
    by_value known None at_v =
        let l : long_of word ≡ Some (p.0, None) = is ∙ ap (λ x. Some (p.0, x)) at_v in
        let found = known_long names p.0 true known in
        step names (N (Some p.0) given) (at h) (at_option p.0 (pending p.0 [] (settled (rules names) h).rows h.skip)) word ws
        (found_turn names h word p.0 None (Some (rule p.0)) e l found ∙ ap (λ k. or_else k []) good.passes)
        (found_walked names h word p.0 None (Some (rule p.0)) e l found)
        (waits_rest given p.0 (settled (rules names) h).rows h.skip good.is known)
    by_value known (Some v) at_v = by_has (has p.0 given) refl
      where
        l : long_of word ≡ Some (p.0, Some v)
        l = is ∙ ap (λ x. Some (p.0, x)) at_v

        found : arg_by_long (rules names) p.0 ≡ Some (rule p.0)
        found = known_long names p.0 true known

        by_has : (b : Bool) → has p.0 given ≡ b → Reads names (cond b None (N None (given ++ (p.0, v) ∷ []))) (at h) (word ∷ ws)
        by_has true there =
            later_fault names (at h) word ws (subst IsFault (sym (found_turn names h word p.0 (Some v) (Some (rule p.0)) e l found))
            (first_fault _ [] (second_fault (settle_fault (rules names) false h) _ good.passes (use_again p.0 v given (settled (rules names) h).rows good.is there))))
        by_has false absent =
            step names (N None (given ++ (p.0, v) ∷ [])) (at h) (at (reacted (rules names) (rule p.0) (v ∷ []) h)) word ws
            (found_turn names h word p.0 (Some v) (Some (rule p.0)) e l found
            ∙ ap₂ (λ a b. or_else (or_else a b) []) good.passes (use_passes p.0 v given (settled (rules names) h).rows good.is absent))
            (found_walked names h word p.0 (Some v) (Some (rule p.0)) e l found)
            (put_used names N ws given p.0 v (reacted (rules names) (rule p.0) (v ∷ []) h) absent refl (used_rows p.0 v given (settled (rules names) h).rows good.is absent) idle_rest)

    by_known : (b : Bool) → is_known names p.0 ≡ b → Reads names (cond b (put_or_wait p.0 p.1 given N) None) (at h) (word ∷ ws)
    by_known false unknown = later_fault names (at h) word ws
        (subst IsFault (sym (found_turn names h word p.0 p.1 None e is (known_long names p.0 false unknown))) (λ bad. cc))
    by_known true known = by_value known p.1 refl

-- a word where an option waits
waiting_word : (names : List Text) (word name : Text) (h : Held) → is_clean word ≡ true
    → turn_of names (at_option name h) word ≡ or_else (flag_word_fault (rules names) false (long_of word) word h)
    (step_fault (shape names) 1 (long_or_other (rules names) (option name) word (long_of word) h).0 (long_or_other (rules names) (option name) word (long_of word) h).1)
waiting_word names word name h e =
    ap (λ b. or_else (cond b [] (flag_word_fault (rules names) false (long_of word) word h))
    (step_fault (shape names) 1 (cond b (h, trailing 1) (long_or_other (rules names) (option name) word (long_of word) h)).0 (cond b (h, trailing 1) (long_or_other (rules names) (option name) word (long_of word) h)).1)) (clean word e).0

waiting_walked : (names : List Text) (word name : Text) (h : Held) → is_clean word ≡ true
    → walked (rules names) [] (at_option name h) word ≡ after_step (rules names) word (at_option name h) (long_or_other (rules names) (option name) word (long_of word) h).0 (long_or_other (rules names) (option name) word (long_of word) h).1
unfolding walked
waiting_walked names word name h e =
    ap (λ b. after_step (rules names) word (at_option name h) (cond b (h, trailing 1) (long_or_other (rules names) (option name) word (long_of word) h)).0 (cond b (h, trailing 1) (long_or_other (rules names) (option name) word (long_of word) h)).1) (clean word e).0

-- an option where a value is wanted
no_value_long : (names : List Text) (name : Text) (R : List Row) (k : ℕ) (m : Text) (v : Option Text) → is_known names name ≡ true → (b : Bool) → is_known names m ≡ b
    → IsFault (long_fault (rules names) false (arg_by_long (rules names) m) v (pending name [] R k))
no_value_long names name R k m v known false unknown = rw (known_long names m false unknown) (λ bad. cc)
no_value_long names name R k m None known true found = rw (known_long names m true found) (no_value names name R k known)
no_value_long names name R k m (Some v) known true found =
    rw (known_long names m true found) (first_fault (settle_fault (rules names) false (pending name [] R k)) _ (no_value names name R k known))

-- a value where one is wanted
valued : (names : List Text) (word name : Text) (R : List Row) (k : ℕ) → is_clean word ≡ true → is_known names name ≡ true → long_of word ≡ None
    → (turn_of names (at_option name (pending name [] R k)) word ≡ []) × (walked (rules names) [] (at_option name (pending name [] R k)) word ≡ at (pending name (word ∷ []) R k))
valued names word name R k e known none =
    let short : short_of word ≡ None = (clean word e).1 none in
    let own : bytes_eq name name ≡ true = (bytes_eq-Decides name name).1 refl in
    let h = pending name [] R k in
    let plain : long_or_other (rules names) (option name) word (long_of word) h ≡ (pending name (word ∷ []) R k, next idle) =
    ap (λ l. long_or_other (rules names) (option name) word l h) none
    ∙ ap (λ s. short_or_plain (rules names) (option name) word s h) short
    ∙ ap (λ a. ((option_word a name word h).0, next (option_word a name word h).1)) (known_id names name true known)
    ∙ ap (λ b. (pending name (word ∷ []) R k, next (cond (nat_lt (cond b 1 0) 1) (option name) idle))) own in
    let calm : flag_word_fault (rules names) false (long_of word) word h ≡ [] =
    ap (λ l. flag_word_fault (rules names) false l word h) none ∙ ap (λ s. option_map_or (λ flags. bundle_fault (rules names) false flags h) s []) short in (
      waiting_word names word name h e ∙ ap₂ (λ (f : Kinds) (m : Held × Step). or_else f (step_fault (shape names) 1 m.0 m.1)) calm plain,
      waiting_walked names word name h e ∙ ap (λ (m : Held × Step). after_step (rules names) word (at_option name h) m.0 m.1) plain,
    )

waits_word : (names : List Text) (N : Option Text → Given → Option Given) (word : Text) (ws : List Text) (given : Given) (name : Text) (R : List Row) (k : ℕ) → is_clean word ≡ true → AllClean ws
    → R ≡ rows given → is_known names name ≡ true → Idle names N ws → (l : Option (Text × Option Text)) → long_of word ≡ l
    → Reads names (cond (is_some l) None (put name word given N)) (at_option name (pending name [] R k)) (word ∷ ws)
waits_word names N word ws given name R k e clean is known idle_rest (Some p) long =
    later_fault names (at_option name (pending name [] R k)) word ws
    (subst IsFault (sym (waiting_word names word name (pending name [] R k) e))
    (first_fault (flag_word_fault (rules names) false (long_of word) word (pending name [] R k)) _
    (subst (λ l. IsFault (flag_word_fault (rules names) false l word (pending name [] R k))) (sym long) (no_value_long names name R k p.0 p.1 known (is_known names p.0) refl))))
waits_word names N word ws given name R k e clean is known idle_rest None plain = by_has (has name given) refl
  where
    v : (turn_of names (at_option name (pending name [] R k)) word ≡ []) × (walked (rules names) [] (at_option name (pending name [] R k)) word ≡ at (pending name (word ∷ []) R k))
    v = valued names word name R k e known plain

    by_has : (b : Bool) → has name given ≡ b → Reads names (cond b None (N None (given ++ (name, word) ∷ []))) (at_option name (pending name [] R k)) (word ∷ ws)
    by_has true there =
        step names None (at_option name (pending name [] R k)) (at (pending name (word ∷ []) R k)) word ws v.0 v.1
        (bad_rest names (pending name (word ∷ []) R k) ws clean (subst IsFault (sym (settle_of names name (word ∷ []) R k known)) (use_again name word given R is there)))
    by_has false absent =
        step names (N None (given ++ (name, word) ∷ [])) (at_option name (pending name [] R k)) (at (pending name (word ∷ []) R k)) word ws v.0 v.1
        (idle_rest (given ++ (name, word) ∷ []) (pending name (word ∷ []) R k) (record {
          passes = settle_of names name (word ∷ []) R k known ∙ use_passes name word given R is absent;
          is = settled_of names name (word ∷ []) R k known ∙ used_rows name word given R is absent;
        }))

-- ---- all words

reads_both : (names : List Text) (ws : List Text) → AllClean ws → Idle names (λ w g. read names w ws g) ws × Waits names (λ w g. read names w ws g) ws
unfolding read walk_fault
reads_both names [] clean = (
  λ given h good. (good.passes, good.is),
  λ given name R k is known. no_value names name R k known,
)
reads_both names (word ∷ ws) clean =
    let later = reads_both names ws clean.1 in
    let N : Option Text → Given → Option Given = λ w g. read names w ws g in (
      λ given h good. idle_word names N word ws given h clean.0 clean.1 good later.0 later.1 (long_of word) refl,
      λ given name R k is known. waits_word names N word ws given name R k clean.0 clean.1 is known later.0 (long_of word) refl,
    )

-- ---- the whole parse

or_true : (b : Bool) → (b || true) ≡ true
or_true true = refl
or_true false = refl

cond_same : {X : Type 0} (b : Bool) (x : X) → cond b x x ≡ x
cond_same true x = refl
cond_same false x = refl

no_defaults : (names : List Text) (rs : List Row) → defaults_fault rs (rules names) ≡ []
unfolding defaults_fault
no_defaults [] rs = refl
no_defaults (n ∷ ns) rs =
    ap (λ b. or_else (cond b [] (given_default_fault (rule n) [])) (defaults_fault (with_default rs (rule n)) (rules ns))) (or_true (has_row n rs))
    ∙ no_defaults ns (with_default rs (rule n))

no_default_rows : (names : List Text) (rs : List Row) → fold with_default rs (rules names) ≡ rs
no_default_rows [] rs = refl
no_default_rows (n ∷ ns) rs = ap (λ x. fold with_default x (rules ns)) (cond_same (has_row n rs) rs) ∙ no_default_rows ns rs

none_below : (names : List Text) (stop : Option (Text × List Text)) → entered_fault (whole (rules names)) stop ≡ []
none_below names None = refl
none_below names (Some p) = refl

none_entered : (names : List Text) (stop : Option (Text × List Text)) → is_some (entered (whole (rules names)) stop) ≡ false
none_entered names None = refl
none_entered names (Some p) = refl

none_required : (names : List Text) (rs : List Row) → list_any (λ a. a.required && not (is_given a.id rs)) (rules names) ≡ false
none_required [] rs = refl
none_required (n ∷ ns) rs = none_required ns rs

no_check : (names : List Text) (rs : List Row) → check_fault (shape names) rs false ≡ []
no_check names rs = ap (λ b. check_kinds false false b) (none_required names rs)

or_else_nil : (k : Kinds) → or_else k [] ≡ k
or_else_nil [] = refl
or_else_nil (x ∷ xs) = refl

pub fault_is : (names words : List Text) → fault_of (parser_of names) words ≡ faults names (at nothing_held) words
fault_is names words =
    let end : Held = end_of names (at nothing_held) words in
    let W = walk_fault (shape names) [] (at nothing_held) words in
    let S = settle_fault (rules names) false end in
    let stop = (walk (rules names) [] nothing_held words).stopped in
    ap (λ a. built_fault a nothing_held words) (built_is names)
    ∙ ap₂ (λ below has. or_else W (or_else below (or_else S (or_else (defaults_fault (settled (rules names) end).rows (rules names)) (check_fault (shape names) (finished (rules names) end) has)))))
    (none_below names stop) (none_entered names stop)
    ∙ ap₂ (λ d e. or_else W (or_else S (or_else d e))) (no_defaults names (settled (rules names) end).rows) (no_check names (finished (rules names) end))
    ∙ ap (or_else W) (or_else_nil S)

pub rows_are : (names words : List Text) → matches_of (parser_of names) words ≡ (settled (rules names) (end_of names (at nothing_held) words)).rows
rows_are names words =
    ap (λ (a : App). rows_after a.top.rules (names_of a) words) (built_is names)
    ∙ no_default_rows names (settled (rules names) (end_of names (at nothing_held) words)).rows

-- what `clap` makes of clean words is what they spell
pub reading : (names words : List Text) → AllClean words
    → MatchOption (read names None words []) (IsFault (fault_of (parser_of names) words)) (λ given. (fault_of (parser_of names) words ≡ []) × (matches_of (parser_of names) words ≡ rows given))
reading names words clean = go (read names None words []) ((reads_both names words clean).0 [] nothing_held (record { passes = refl; is = refl }))
  where
    go : (o : Option Given) → Reads names o (at nothing_held) words
        → MatchOption o (IsFault (fault_of (parser_of names) words)) (λ given. (fault_of (parser_of names) words ≡ []) × (matches_of (parser_of names) words ≡ rows given))
    go None r = subst IsFault (sym (fault_is names words)) r
    go (Some given) r = (fault_is names words ∙ r.0, rows_are names words ∙ r.1)
