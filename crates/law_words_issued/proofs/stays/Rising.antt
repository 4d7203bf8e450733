-- What was issued is issued where words rise, no place of a word is lost, and each object that lies there lay there or has a new word.
use Rattle.std.proofs.Common.{◌≡◌, ◌⊎◌, inl, inr, ⊎_elim, ℕ, ◌≤◌, ◌==◌, ◌&&◌, ◌||◌, Bool, true, false, nat_lt, nat_le, List, [], ◌∷◌, Option, Some, None, refl, sym, ap, ap₂, subst, ◌∙◌, arith}
use Rattle.std.proofs.lemmas.Bool.{eq-eqb}
use Rattle.std.proofs.lemmas.Bool.Decides.{nat_tests}
use Rattle.law_words_issued.specs.Below.fr_base.declared.name.ObjNo.{ObjNo}
use Rattle.law_words_issued.specs.Below.global_addr.Words.{colour_of, server_of, address_of}
use Rattle.law_words_issued.specs.Below.heap_partition.declared.value.Cell.{Cell}
use Rattle.law_words_issued.specs.Below.server_model.Servers.{Cluster}
use Rattle.law_words_issued.specs.Below.coherent_memory.Names.{Among, tot, one, same_object}
use Rattle.law_words_issued.specs.Below.coherent_memory.Things.{Thing, lies, vacant, retired, counts, things_of}
use Rattle.law_words_issued.specs.Below.coherent_memory.Sight.{Pointer, is_spot, colour_up_to, word_of_object, is_issued_at, is_issued, issued, word, sight}
use Rattle.law_words_issued.specs.Below.coherent_memory.Weights.{states, below}
use Rattle.law_words_issued.specs.Below.coherent_memory.Balances.{AtMostOne}
use Rattle.law_words_issued.specs.Below.coherent_memory.Words.{WordsLaw, LeadsTo}
use Rattle.law_words_issued.proofs.Below.coherent_memory.Names.{and_left, and_right, same_number}
use Rattle.law_words_issued.proofs.Below.coherent_memory.Words.{words_law, named}
use Rattle.law_walks_own.proofs.Below.law_words_paths.paths.InState.{only_one}
use Rattle.law_words_issued.specs.Below.law_counts_sums.Sums.{Sums, is_server}
use Rattle.law_words_issued.proofs.Below.law_counts_sums.Boxes.{tot_le}
use Rattle.law_walks_own.proofs.Below.law_words_kept.reads.Flights.{found, truly}
use Rattle.law_walks_own.specs.Below.law_words_kept.prepared.Requests.{WordsRise}
use Rattle.law_words_issued.proofs.stays.Places.{spotted, lying}

-- WHERE IT WAS ISSUED

-- the thing at whose address
pub record Issuer (k : Cluster) (w : ℕ) : Type 0 where
  pub thing : Thing
  pub among : Among thing (things_of k)
  pub issues : is_issued_at k.options.colours (sight k).pointers w thing ≡ true

issuer_in : (colours w : ℕ) (ps : List Pointer) (b : List Thing) → is_issued colours ps b w ≡ true → (x : Thing) × Among x b × (is_issued_at colours ps w x ≡ true)
issuer_in colours w ps [] e = absurd (cc e)
issuer_in colours w ps (x ∷ b) e = by (is_issued_at colours ps w x) refl (issuer_in colours w ps b) e
  where
    by : (q : Bool) → is_issued_at colours ps w x ≡ q → (is_issued colours ps b w ≡ true → (z : Thing) × Among z b × (is_issued_at colours ps w z ≡ true)) → (q || is_issued colours ps b w) ≡ true → (z : Thing) × Among z (x ∷ b) × (is_issued_at colours ps w z ≡ true)
    by true f go d = (x, inl refl, f)
    by false f go d = let r = go d in (r.0, inr r.1, r.2)

issuer : (k : Cluster) (w : ℕ) → issued (sight k) w ≡ true → Issuer k w
issuer k w e = let r = issuer_in k.options.colours w (sight k).pointers (things_of k) e in record { thing = r.0; among = r.1; issues = r.2 }

pub issued_among : (colours w : ℕ) (ps : List Pointer) (x : Thing) (b : List Thing) → Among x b → is_issued_at colours ps w x ≡ true → is_issued colours ps b w ≡ true
issued_among colours w ps x [] h e = absurd h
issued_among colours w ps x (y ∷ b) (inl q) e = ap (λ z. z || is_issued colours ps b w) (ap (is_issued_at colours ps w) q ∙ e)
issued_among colours w ps x (y ∷ b) (inr h) e = by (is_issued_at colours ps w y) (issued_among colours w ps x b h e)
  where
    by : (q : Bool) → is_issued colours ps b w ≡ true → q || is_issued colours ps b w ≡ true
    by true f = refl
    by false f = f

spot_state : (s a w : ℕ) → is_spot s a w ≡ true → one (s == server_of w && a == address_of w) ≡ 1
spot_state s a w e =
    let server : s ≡ server_of w = sym (same_number (server_of w) s (and_left (server_of w == s) (address_of w == a) e)) in
    let address : a ≡ address_of w = sym (same_number (address_of w) a (and_right (server_of w == s) (address_of w == a) e)) in
    ap₂ (λ x y. one (x && y)) (eq-eqb s (server_of w) server) (eq-eqb a (address_of w) address)

-- it is a state of the word's address
states_so : (colours w : ℕ) (ps : List Pointer) (x : Thing) → is_issued_at colours ps w x ≡ true → states (server_of w, address_of w) x ≡ 1
states_so colours w ps (lies s a c) e = spot_state s a w (and_left (is_spot s a w) (colour_up_to (word_of_object ps c.object) w) e)
states_so colours w ps (vacant s a n) e = spot_state s a w (and_left (is_spot s a w) (nat_lt (colour_of w) n) e)
states_so colours w ps (retired s a) e = spot_state s a w (and_left (is_spot s a w) (nat_lt (colour_of w) colours) e)
states_so colours w ps x e = absurd (cc e)

-- there the word has its place
spotted_so : (colours w : ℕ) (ps : List Pointer) (x : Thing) → is_issued_at colours ps w x ≡ true → 1 ≤ spotted colours w x
spotted_so colours w ps (lies s a c) e = omega (arith, ap one (and_left (is_spot s a w) (colour_up_to (word_of_object ps c.object) w) e))
spotted_so colours w ps (vacant s a n) e = omega (arith, ap one e)
spotted_so colours w ps (retired s a) e = omega (arith, ap one e)
spotted_so colours w ps x e = absurd (cc e)

-- so is each word of that address with no later colour
up_to_lower : (o : Option ℕ) (w v : ℕ) → nat_le (colour_of v) (colour_of w) ≡ true → colour_up_to o w ≡ true → colour_up_to o v ≡ true
up_to_lower None w v le e = absurd (cc e)
up_to_lower (Some u) w v le e = grind (arith, nat_tests, le, e)

same_spot : (s a w v : ℕ) → server_of v ≡ server_of w → address_of v ≡ address_of w → is_spot s a w ≡ true → is_spot s a v ≡ true
same_spot s a w v se ad e = ap₂ (λ x y. (x == s) && (y == a)) se ad ∙ e

lower_issued : (colours w v : ℕ) (ps : List Pointer) (x : Thing) → server_of v ≡ server_of w → address_of v ≡ address_of w → nat_le (colour_of v) (colour_of w) ≡ true → is_issued_at colours ps w x ≡ true → is_issued_at colours ps v x ≡ true
lower_issued colours w v ps (lies s a c) se ad le e =
    let o = word_of_object ps c.object in
    ap₂ (λ p q. p && q) (same_spot s a w v se ad (and_left (is_spot s a w) (colour_up_to o w) e)) (up_to_lower o w v le (and_right (is_spot s a w) (colour_up_to o w) e))
lower_issued colours w v ps (vacant s a n) se ad le e =
    let low : nat_lt (colour_of w) n ≡ true = and_right (is_spot s a w) (nat_lt (colour_of w) n) e in
    let lower : nat_lt (colour_of v) n ≡ true = grind (arith, nat_tests, le, low) in
    ap₂ (λ p q. p && q) (same_spot s a w v se ad (and_left (is_spot s a w) (nat_lt (colour_of w) n) e)) lower
lower_issued colours w v ps (retired s a) se ad le e =
    let low : nat_lt (colour_of w) colours ≡ true = and_right (is_spot s a w) (nat_lt (colour_of w) colours) e in
    let lower : nat_lt (colour_of v) colours ≡ true = grind (arith, nat_tests, le, low) in
    ap₂ (λ p q. p && q) (same_spot s a w v se ad (and_left (is_spot s a w) (nat_lt (colour_of w) colours) e)) lower
lower_issued colours w v ps x se ad le e = absurd (cc e)

pub weighs : (f : Thing → ℕ) (x : Thing) (b : List Thing) → Among x b → f x ≤ tot f b
weighs f x [] h = absurd h
weighs f x (y ∷ b) (inl e) = omega (arith, ap f e)
weighs f x (y ∷ b) (inr h) = omega (arith, weighs f x b h)

some_spotted : (k : Cluster) (w : ℕ) → Issuer k w → 1 ≤ tot (spotted k.options.colours w) (things_of k)
some_spotted k w x = omega (arith, spotted_so k.options.colours w (sight k).pointers x.thing x.issues, weighs (spotted k.options.colours w) x.thing (things_of k) x.among)

-- WHERE WORDS RISE

-- an object lay there, or its word is new
abbrev pub Lay : (k d : Cluster) → WordsRise k d → ObjNo → Type 0
Lay k d rise o = (issued (sight k) (rise.has_words.word o) ≡ false) ⊎ (1 ≤ tot (lying o) (things_of k))

module _ (k d : Cluster) (rise : WordsRise k d) (differ : AtMostOne states (things_of k)) (options : d.options ≡ k.options) (lay : (r a : ℕ) (c : Cell) → Among (lies r a c) (things_of d) → Lay k d rise c.object)
    (keeps : (w : ℕ) → nat_lt (colour_of w) k.options.colours ≡ true → tot (spotted k.options.colours w) (things_of k) ≤ tot (spotted k.options.colours w) (things_of d)) where
  abbrev colours : ℕ
  colours = k.options.colours

  law : WordsLaw
  law = words_law

  higher : (u w : ℕ) → (nat_le (colour_of u) (colour_of w) ≡ true → ⊥) → nat_le (colour_of w) (colour_of u) ≡ true
  higher u w f = by (nat_le (colour_of u) (colour_of w)) refl
    where
      by : (b : Bool) → nat_le (colour_of u) (colour_of w) ≡ b → nat_le (colour_of w) (colour_of u) ≡ true
      by true e = absurd (f e)
      by false e = grind (arith, nat_tests, e)

  -- where an object lies now the word's colour is at most that of the object's word
  module _ (w : ℕ) (x : Issuer k w) (r a : ℕ) (c : Cell) (h : Among (lies r a c) (things_of d)) (spot : is_spot r a w ≡ true) where
    abbrev now : ℕ
    now = rise.has_words.word c.object

    leads : LeadsTo r a now
    leads = rise.has_words.home r a c h

    server : server_of now ≡ server_of w
    server = leads.server ∙ sym (same_number (server_of w) r (and_left (server_of w == r) (address_of w == a) spot))

    address : address_of now ≡ address_of w
    address = leads.address ∙ sym (same_number (address_of w) a (and_right (server_of w == r) (address_of w == a) spot))

    -- it lay there, and has the word that it had
    was : 1 ≤ tot (lying c.object) (things_of k) → now ≡ rise.began.word c.object → nat_le (colour_of w) (colour_of now) ≡ true
    was l e = let f = found (lying c.object) (things_of k) l in by f.0 f.1 f.2
      where
        there : (r0 a0 : ℕ) (c0 : Cell) → Among (lies r0 a0 c0) (things_of k) → c0.object ≡ c.object → nat_le (colour_of w) (colour_of now) ≡ true
        there r0 a0 c0 m same =
            let word_then : rise.began.word c0.object ≡ now = ap rise.began.word same ∙ sym e in
            let home = rise.began.home r0 a0 c0 m in
            let sv : r0 ≡ server_of w = sym home.server ∙ ap server_of word_then ∙ server in
            let ad : a0 ≡ address_of w = sym home.address ∙ ap address_of word_then ∙ address in
            let here : states (server_of w, address_of w) (lies r0 a0 c0) ≡ 1 = ap₂ (λ p q. one (p && q)) (eq-eqb r0 (server_of w) sv) (eq-eqb a0 (address_of w) ad) in
            let same_thing : x.thing ≡ lies r0 a0 c0 =
            only_one (states (server_of w, address_of w)) x.thing (lies r0 a0 c0) (things_of k) (differ (server_of w, address_of w)) x.among m (omega (arith, states_so colours w (sight k).pointers x.thing x.issues)) (omega (arith, here)) in
            let issues : is_issued_at colours (sight k).pointers w (lies r0 a0 c0) ≡ true = ap (is_issued_at colours (sight k).pointers w) (sym same_thing) ∙ x.issues in
            let up : colour_up_to (word (sight k) c0.object) w ≡ true = and_right (is_spot r0 a0 w) (colour_up_to (word (sight k) c0.object) w) issues in
            let told : word (sight k) c0.object ≡ Some now = law.first_tells k rise.began c0.object (rise.began.live r0 a0 c0 m) ∙ ap Some word_then in
            ap (λ o. colour_up_to o w) (sym told) ∙ up

        by : (y : Thing) → Among y (things_of k) → 1 ≤ lying c.object y → nat_le (colour_of w) (colour_of now) ≡ true
        by (lies r0 a0 c0) m l = there r0 a0 c0 m (named c0.object c.object (truly (same_object c0.object c.object) l))
        by _ m l = absurd (omega (arith, l))

    -- it has a new one
    is_new : issued (sight k) now ≡ false → nat_le (colour_of w) (colour_of now) ≡ true
    is_new none =
        higher now w (λ le. (let t : true ≡ false = sym (issued_among colours now (sight k).pointers x.thing (things_of k) x.among (lower_issued colours w now (sight k).pointers x.thing server address le x.issues)) ∙ none in absurd (cc t)))

    up_to_it : colour_up_to (word (sight d) c.object) w ≡ true
    up_to_it = ap (λ o. colour_up_to o w) (law.first_tells d rise.has_words c.object (rise.has_words.live r a c h)) ∙ ⊎_elim is_new (λ (l : 1 ≤ tot (lying c.object) (things_of k)). ⊎_elim (was l) is_new (rise.rises c.object)) (lay r a c h)

  issues_now : (w : ℕ) → Issuer k w → (y : Thing) → Among y (things_of d) → 1 ≤ spotted colours w y → is_issued_at colours (sight d).pointers w y ≡ true
  issues_now w x (lies r a c) h l = let spot = truly (is_spot r a w) l in ap₂ (λ p q. p && q) spot (up_to_it w x r a c h spot)
  issues_now w x (vacant r a m) h l = truly (is_spot r a w && nat_lt (colour_of w) m) l
  issues_now w x (retired r a) h l = truly (is_spot r a w && nat_lt (colour_of w) colours) l
  issues_now w x y h l = absurd (omega (arith, l))

  -- a word that was issued is issued
  pub still_issued : (w : ℕ) → nat_lt (colour_of w) k.options.colours ≡ true → issued (sight k) w ≡ true → issued (sight d) w ≡ true
  still_issued w low e =
      let x = issuer k w e in
      let f = found (spotted colours w) (things_of d) (omega (arith, keeps w low, some_spotted k w x)) in
      subst (λ o. is_issued o.colours (sight d).pointers (things_of d) w ≡ true) (sym options) (issued_among colours w (sight d).pointers f.0 (things_of d) f.1 (issues_now w x f.0 f.1 f.2))

-- EACH ADDRESS HAS ONE STATE

pub states_differ : (k : Cluster) → Sums (things_of k) → AtMostOne states (things_of k)
states_differ k sums at = omega (arith, sums.one_state at, tot_le (below at) (is_server at.0) (below_server at) (things_of k), sums.servers_differ at.0)
  where
    fewer : (p q : Bool) → one (p && q) ≤ one p
    fewer true true = omega arith
    fewer true false = omega arith
    fewer false q = omega arith

    below_server : (at : ℕ × ℕ) (x : Thing) → below at x ≤ is_server at.0 x
    below_server at (counts r next old started made events) = fewer (r == at.0) (nat_lt at.1 next)
    below_server at _ = omega arith
