-- A text has one reading.
use Rattle.std.proofs.Common.{◌≡◌, ◌≢◌, ℕ, zero, suc, ◌+◌, ◌<◌, ◌≤◌, List, [], ◌∷◌, ◌++◌, length, replicate, refl, sym, ap, subst, ◌∙◌, append_assoc, arith, Option, Some, None, ◌⊎◌, inl, inr}
use Rattle.std.specs.List.{flat_map}
use Rattle.std.proofs.lemmas.List.{replicate-append-replicate}
use Rattle.fr_base.specs.declared.step.Fresh.{Fresh}
use Rattle.journal.specs.declared.order.OrderLine.{OrderLine}
use Rattle.journal.specs.OrderText.{spell, Leads, IsOrder, IsRefused, steps_of_line, steps_of}
use Rattle.journal.specs.OrderReading.{line_at}
use Rattle.journal.proofs.Tools.{some_is, fst_is, snd_is}
use Rattle.journal.proofs.LineLemmas.{line_again, line_nil, none_read}
use Rattle.journal.proofs.OrderLemmas.{Leads-start, Leads-push, stops_refused, fewer}

-- the first of some lines is read first
first_line : (place : ℕ) (bytes : List ℕ) (l : OrderLine) (ls : List OrderLine) (rest : List ℕ) → Leads place bytes (l ∷ ls) rest → line_at place bytes ≡ Some (l, flat_map spell ls ++ rest)
first_line place bytes l ls rest h =
    let text : bytes ≡ spell l ++ (flat_map spell ls ++ rest) = h.text ∙ append_assoc (spell l) (flat_map spell ls) rest in
    ap (line_at place) text ∙ line_again place l (flat_map spell ls ++ rest) h.lines.0 ∙ ap (λ (p : ℕ). Some (record l { place = p }, flat_map spell ls ++ rest)) (sym h.places.0)

-- and then the others
other_lines : (place : ℕ) (bytes : List ℕ) (l : OrderLine) (ls : List OrderLine) (rest : List ℕ) → Leads place bytes (l ∷ ls) rest → Leads (place + length (spell l)) (flat_map spell ls ++ rest) ls rest
other_lines place bytes l ls rest h = record { lines = h.lines.1; places = h.places.1; text = refl }

-- no line comes next
abbrev Stops : List ℕ → Type 0
Stops rest = (place : ℕ) → line_at place rest ≡ None

-- where two ways stop
record IsSameWay (ls ms : List OrderLine) (r s : List ℕ) : Type 0 where
  lines : ls ≡ ms
  rest : r ≡ s

-- two ways from one place that both stop are one
same_way : (place : ℕ) (bytes : List ℕ) (ls ms : List OrderLine) (r s : List ℕ) → Leads place bytes ls r → Leads place bytes ms s → Stops r → Stops s → IsSameWay ls ms r s
same_way place bytes [] [] r s a b x y = record { lines = refl; rest = sym a.text ∙ b.text }
same_way place bytes [] (m ∷ ms) r s a b x y = absurd (
    let none : line_at place bytes ≡ None = ap (line_at place) a.text ∙ x place in
    let one = first_line place bytes m ms s b in
    cc (none, one)
    )
same_way place bytes (l ∷ ls) [] r s a b x y = absurd (
    let none : line_at place bytes ≡ None = ap (line_at place) b.text ∙ y place in
    let one = first_line place bytes l ls r a in
    cc (none, one)
    )
same_way place bytes (l ∷ ls) (m ∷ ms) r s a b x y =
    let both : (l, flat_map spell ls ++ r) ≡ (m, flat_map spell ms ++ s) = some_is (l, flat_map spell ls ++ r) (m, flat_map spell ms ++ s) (sym (first_line place bytes l ls r a) ∙ first_line place bytes m ms s b) in
    let same : l ≡ m = fst_is (l, flat_map spell ls ++ r) (m, flat_map spell ms ++ s) both in
    let behind : flat_map spell ls ++ r ≡ flat_map spell ms ++ s = snd_is (l, flat_map spell ls ++ r) (m, flat_map spell ms ++ s) both in
    let others = other_lines place bytes m ms s b in
    let moved : Leads (place + length (spell l)) (flat_map spell ls ++ r) ms s = subst (λ (k : OrderLine). Leads (place + length (spell k)) (flat_map spell ls ++ r) ms s) (sym same) (subst (λ t. Leads (place + length (spell m)) t ms s) (sym behind) others) in
    let way = same_way (place + length (spell l)) (flat_map spell ls ++ r) ls ms r s (other_lines place bytes l ls r a) moved x y in
    record { lines = ap (λ k. k ∷ ls) same ∙ ap (λ ks. m ∷ ks) way.lines; rest = way.rest }

-- the way to a fault stops there
fault_stops : (place : ℕ) (bytes : List ℕ) (p : ℕ) (a : IsRefused place bytes p) → Stops a.rest
fault_stops place bytes p a at = none_read at a.rest a.bad

-- a text has one list of lines
pub one_lines : (place : ℕ) (bytes : List ℕ) (ls ms : List OrderLine) → IsOrder place bytes ls → IsOrder place bytes ms → ls ≡ ms
one_lines place bytes ls ms a b = (same_way place bytes ls ms [] [] a b line_nil line_nil).lines

-- or one fault
pub one_fault : (place : ℕ) (bytes : List ℕ) (p q : ℕ) → IsRefused place bytes p → IsRefused place bytes q → p ≡ q
one_fault place bytes p q a b =
    let way = same_way place bytes a.front b.front a.rest b.rest a.leads b.leads (fault_stops place bytes p a) (fault_stops place bytes q b) in
    a.at ∙ ap (λ ls. place + length (flat_map spell ls)) way.lines ∙ sym b.at

-- and not both
pub never_both : (place : ℕ) (bytes : List ℕ) (ls : List OrderLine) (p : ℕ) → IsOrder place bytes ls → IsRefused place bytes p → ⊥
never_both place bytes ls p a b = b.some (sym (same_way place bytes ls b.front [] b.rest a b.leads line_nil (fault_stops place bytes p b)).rest)

-- read so far, a text is read to its end or refused
abbrev Ends : ℕ → List ℕ → Type 0
Ends place bytes = ((ls : List OrderLine) × IsOrder place bytes ls) ⊎ ((p : ℕ) × IsRefused place bytes p)

-- some bytes are not none
some_bytes : (b : ℕ) (bs : List ℕ) → b ∷ bs ≢ []
some_bytes b bs e = absurd cc

-- the next line is read, or there is none
next_from : (n place : ℕ) (bytes : List ℕ) (ls : List OrderLine) (rest : List ℕ) → length rest ≤ n → ((l : OrderLine) (after : List ℕ) → length after < n → Leads place bytes (ls ++ l ∷ []) after → Ends place bytes) → rest ≢ [] → Leads place bytes ls rest
    → (r : Option (OrderLine × List ℕ)) → line_at (place + length (flat_map spell ls)) rest ≡ r → Ends place bytes
next_from n place bytes ls rest few go some h None e = inr (place + length (flat_map spell ls), stops_refused place bytes ls rest (place + length (flat_map spell ls)) h refl some e)
next_from n place bytes ls rest few go some h (Some y) e = go y.0 y.1 (omega (arith, fewer (place + length (flat_map spell ls)) rest y.0 y.1 e)) (Leads-push place bytes ls rest y.0 y.1 h e)

-- with the lines so far, and as many more as there are bytes at most
ends_from : (n place : ℕ) (bytes : List ℕ) (ls : List OrderLine) (rest : List ℕ) → length rest < n → Leads place bytes ls rest → Ends place bytes
ends_from zero place bytes ls rest few h = absurd (omega arith)
ends_from (suc n) place bytes ls [] few h = inl (ls, h)
ends_from (suc n) place bytes ls (b ∷ bs) few h = next_from n place bytes ls (b ∷ bs) (omega arith) (λ l after few next. ends_from n place bytes (ls ++ l ∷ []) after few next) (some_bytes b bs) h (line_at (place + length (flat_map spell ls)) (b ∷ bs)) refl

-- so each text has an answer
pub either : (place : ℕ) (bytes : List ℕ) → Ends place bytes
either place bytes = ends_from (suc (length bytes)) place bytes [] bytes (omega arith) (Leads-start place bytes)

-- two lines that follow one another spell what one does
pub joined : (l m n : OrderLine) (rest : List OrderLine) → l.thread ≡ m.thread → l.fresh ≡ m.fresh → n.thread ≡ m.thread → n.fresh ≡ m.fresh → n.steps ≡ l.steps + m.steps → steps_of (l ∷ m ∷ rest) ≡ steps_of (n ∷ rest)
joined l m n rest lt lf nt nf s =
    let step : ℕ → Fresh → ℕ × Fresh = λ t f. (t, f) in
    let left : steps_of_line l ≡ replicate l.steps (m.thread, m.fresh) = ap (λ (t : ℕ). replicate l.steps (step t l.fresh)) lt ∙ ap (λ (f : Fresh). replicate l.steps (step m.thread f)) lf in
    let one : steps_of_line n ≡ replicate (l.steps + m.steps) (m.thread, m.fresh) = ap (λ (t : ℕ). replicate n.steps (step t n.fresh)) nt ∙ ap (λ (f : Fresh). replicate n.steps (step m.thread f)) nf ∙ ap (λ k. replicate k (step m.thread m.fresh)) s in
    sym (append_assoc (steps_of_line l) (steps_of_line m) (steps_of rest))
    ∙ ap (λ x. x ++ steps_of rest) (ap (λ x. x ++ steps_of_line m) left ∙ replicate-append-replicate l.steps m.steps (step m.thread m.fresh) ∙ sym one)
