-- The options that words spell (this project's rule): `--name value` or `--name=value`, in any order, each at most once.
use Rattle.std.specs.Prelude.{ℕ, ◌++◌, Bool, false, ◌&&◌, ◌==◌, List, [], ◌∷◌, Option, Some, None, if◌then◌else◌, option_map, find}
use Rattle.std.specs.List.{list_any, before_first, after_first}
use Rattle.std.specs.Str.{bytes_eq}

abbrev pub Text : Type 0
Text = List ℕ

-- the options that were given so far, each with the text of its value
abbrev pub Given : Type 0
Given = List (Text × Text)

abbrev pub has : Text → Given → Bool
has name given = list_any (λ p. bytes_eq p.0 name) given

abbrev pub is_known : List Text → Text → Bool
is_known names name = list_any (λ n. bytes_eq n name) names

-- what stands behind the two hyphens of an option
abbrev pub behind_hyphens : Text → Option Text
behind_hyphens [] = None
behind_hyphens (a ∷ []) = None
behind_hyphens (a ∷ b ∷ rest) = if a == 45 && b == 45 then Some rest else None

-- the name, and behind the first `=` (61) the value, if there is one
abbrev pub name_and_value : Text → Text × Option Text
name_and_value text = (before_first (λ c. c == 61) text, if list_any (λ c. c == 61) text then Some (after_first (λ c. c == 61) text) else None)

abbrev pub option_word : Text → Option (Text × Option Text)
option_word word = option_map name_and_value (behind_hyphens word)

-- a word that begins with a hyphen is no value
abbrev pub begins_with_hyphen : Text → Bool
begins_with_hyphen [] = false
begins_with_hyphen (c ∷ rest) = c == 45

-- an option gets its value, where it has none yet
abbrev pub put : Text → Text → Given → (Option Text → Given → Option Given) → Option Given
put name value given next = if has name given then None else next None (given ++ (name, value) ∷ [])

abbrev pub put_or_wait : Text → Option Text → Given → (Option Text → Given → Option Given) → Option Given
put_or_wait name (Some value) given next = put name value given next
put_or_wait name None given next = next (Some name) given

abbrev pub option_met : List Text → Option (Text × Option Text) → Given → (Option Text → Given → Option Given) → Option Given
option_met names None given next = None
option_met names (Some p) given next = if is_known names p.0 then put_or_wait p.0 p.1 given next else None

-- a word is an option, or the value that the option before it waits for
abbrev pub word_met : List Text → Option Text → Text → Given → (Option Text → Given → Option Given) → Option Given
word_met names None word given next = option_met names (option_word word) given next
word_met names (Some name) word given next = if begins_with_hyphen word then None else put name word given next

-- no option waits for its value at the end
abbrev pub ended : Option Text → Given → Option Given
ended None given = Some given
ended (Some name) given = None

-- the options of the words, for a command that has these names: the name that waits for its value, the words from here on, and
-- what was given before them; none where a word has no place
unfoldable pub read : List Text → Option Text → List Text → Given → Option Given
read names waits [] given = ended waits given
read names waits (word ∷ rest) given = word_met names waits word given (λ w g. read names w rest g)

-- the text of an option's value
abbrev pub value_of : Text → Given → Option Text
value_of name given = option_map (λ p. p.1) (find (λ p. bytes_eq p.0 name) given)
