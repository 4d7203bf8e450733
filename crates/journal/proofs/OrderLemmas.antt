-- Lines one after another: one line more, and what two readings have in common.
use Rattle.std.proofs.Common.{◌≡◌, ◌≢◌, ℕ, ◌+◌, ◌-◌, ◌<◌, ◌≤◌, List, [], ◌∷◌, ◌++◌, length, drop, refl, sym, ap, ◌∙◌, append_assoc, length-append, length-drop, arith, Some, None}
use Rattle.std.specs.List.{flat_map, AllByRecursion}
use Rattle.std.proofs.lemmas.List.{append-nil}
use Rattle.std.proofs.lemmas.List.Concat.{flat_map-append}
use Rattle.journal.specs.declared.order.OrderLine.{OrderLine}
use Rattle.journal.specs.OrderText.{spell, IsLine, ArePlaced, Leads, IsRefused}
use Rattle.journal.specs.OrderReading.{line_at}
use Rattle.journal.proofs.LineLemmas.{line_takes, none_begins, spell_some}

-- a line more can be one
pub lines_push : (ls : List OrderLine) (l : OrderLine) → AllByRecursion IsLine ls → IsLine l → AllByRecursion IsLine (ls ++ l ∷ [])
lines_push [] l all is = (is, tt)
lines_push (m ∷ ls) l all is = (all.0, lines_push ls l all.1 is)

-- a line more stands behind the text of the lines before it
pub places_push : (place : ℕ) (ls : List OrderLine) (l : OrderLine) → ArePlaced place ls → l.place ≡ place + length (flat_map spell ls) → ArePlaced place (ls ++ l ∷ [])
places_push place [] l all at = (at ∙ omega arith, tt)
places_push place (m ∷ ls) l all at = (all.0, places_push (place + length (spell m)) ls l all.1 (omega (arith, at, length-append (spell m) (flat_map spell ls))))

-- the text of one line more
pub text_push : (ls : List OrderLine) (l : OrderLine) → flat_map spell (ls ++ l ∷ []) ≡ flat_map spell ls ++ spell l
text_push ls l = flat_map-append spell ls (l ∷ []) ∙ ap (λ x. flat_map spell ls ++ x) (append-nil (spell l))

-- a line that is read next
pub Leads-push : (place : ℕ) (bytes : List ℕ) (ls : List OrderLine) (rest : List ℕ) (l : OrderLine) (after : List ℕ) → Leads place bytes ls rest → line_at (place + length (flat_map spell ls)) rest ≡ Some (l, after) → Leads place bytes (ls ++ l ∷ []) after
Leads-push place bytes ls rest l after h e =
    let t = line_takes (place + length (flat_map spell ls)) rest (l, after) e in
    record {
      lines = lines_push ls l h.lines t.line;
      places = places_push place ls l h.places t.at;
      text = h.text ∙ ap (λ x. flat_map spell ls ++ x) t.text ∙ sym (append_assoc (flat_map spell ls) (spell l) after) ∙ ap (λ x. x ++ after) (sym (text_push ls l));
    }

-- no lines, at first
pub Leads-start : (place : ℕ) (bytes : List ℕ) → Leads place bytes [] bytes
Leads-start place bytes = record { lines = tt; places = tt; text = refl }

-- where no line comes next
pub stops_refused : (place : ℕ) (bytes : List ℕ) (ls : List OrderLine) (rest : List ℕ) (fault : ℕ) → Leads place bytes ls rest → fault ≡ place + length (flat_map spell ls) → rest ≢ [] → line_at fault rest ≡ None → IsRefused place bytes fault
stops_refused place bytes ls rest fault h at some e = record { front = ls; rest = rest; leads = h; at = at; some = some; bad = none_begins fault rest e }

-- the place of the rest, counted from the end, where there is a rest
pub place_is : (place : ℕ) (bytes : List ℕ) (ls : List OrderLine) (rest : List ℕ) → 0 < length rest → Leads place (drop place bytes) ls rest → length bytes - length rest ≡ place + length (flat_map spell ls)
place_is place bytes ls rest some h = omega (arith, length-drop place bytes, ap length h.text, length-append (flat_map spell ls) rest)

-- a line that is read takes some bytes
pub fewer : (place : ℕ) (rest : List ℕ) (l : OrderLine) (after : List ℕ) → line_at place rest ≡ Some (l, after) → length after < length rest
fewer place rest l after e =
    let t = line_takes place rest (l, after) e in
    omega (arith, ap length t.text, length-append (spell l) after, spell_some l)

-- and there is no more of it than of all
pub rest_short : (place : ℕ) (bytes : List ℕ) (ls : List OrderLine) (rest : List ℕ) → Leads place (drop place bytes) ls rest → length rest ≤ length bytes
rest_short place bytes ls rest h = omega (arith, length-drop place bytes, ap length h.text, length-append (flat_map spell ls) rest)
