-- Mutable references (this project's rule): a reference that was written gets a new word before it is read elsewhere or
-- ends, and the pointer at its holder gets that word at the end.
use Rattle.std.specs.Prelude.{ℕ, ◌+◌, Bool, false, ◌||◌, ◌==◌, not, nat_lt, if◌then◌else◌, Option, Some, None}
use Rattle.global_addr.specs.Words.{colour_of, next_word}
use Rattle.mut_borrow.specs.declared.mutable.MutRef.{MutRef}
use Rattle.mut_borrow.specs.declared.mutable.Cleaned.{Cleaned}
use Rattle.mut_borrow.specs.declared.mutable.Cleaned.TheVariants.{Same, Tinted, MustRenew}

-- the object was written through the reference, or got another word: what its holder's pointer does not show yet
abbrev pub changed : MutRef → Bool
changed r = r.dirty || not (r.word == r.first)

-- what cleaning answers under a colour limit
abbrev pub cleaned_answer : ℕ → MutRef → Cleaned
cleaned_answer limit r =
    if r.dirty then (if nat_lt (colour_of r.word + 1) limit then Tinted (next_word r.word) else MustRenew) else Same

-- the reference after that answer
abbrev pub cleaned_ref : Cleaned → MutRef → MutRef
cleaned_ref (Tinted word) r = record r { word = word; dirty = false }
cleaned_ref Same r = r
cleaned_ref MustRenew r = r

-- the word that the pointer at the holder gets at the end
abbrev pub finish_word : MutRef → Option ℕ
finish_word r = if r.word == r.first then None else Some r.word
