-- Where words lead in a partition in the middle of an event: where a cell gets another value, and where an object gets another address.
use Rattle.std.proofs.Common.{◌≡◌, ◌≢◌, ℕ, ◌+◌, ◌<◌, ◌≤◌, ◌^◌, ◌==◌, ◌&&◌, nat_lt, is_some, Bool, true, false, if◌then◌else◌, List, [], ◌∷◌, ◌++◌, length, Option, Some, None, refl, sym, ap, ap₂, subst, ◌∙◌, arith}
use Rattle.std.specs.Prelude.{slice_get, slice_set, slice_index_or}
use Rattle.std.specs.List.{AllByRecursion}
use Rattle.std.proofs.lemmas.Bool.Decides.{nat_tests}
use Rattle.std.proofs.lemmas.List.{length-set, length-append, get_or-set_same, get_or-set_other, get_or_append_left}
use Rattle.std.proofs.lemmas.Option.{slice_get_within}
use Rattle.law_results_reads.specs.Below.global_addr.Words.{colour_of, server_of, address_of, next_word}
use Rattle.law_results_reads.specs.Below.heap_partition.declared.value.BoxPtr.{BoxPtr}
use Rattle.law_results_reads.specs.Below.heap_partition.declared.value.Cell.{Cell}
use Rattle.law_results_reads.specs.Below.heap_partition.declared.value.Owned.{Owned}
use Rattle.law_results_reads.specs.Below.colour_retire.Colours.{picked, rest_of}
use Rattle.law_results_reads.specs.Below.owner_box.View.{PartitionState}
use Rattle.law_results_reads.specs.Below.owner_box.Partition.{cell_of, next_place, new_word, put_cell, made, made_again, freed, renewed, with_value, stored}
use Rattle.law_results_reads.proofs.Below.owner_box.Issued.{packed}
use Rattle.law_results_reads.specs.Below.server_model.Servers.{Rest, no_mutexes}
use Rattle.law_results_reads.specs.Below.journal.declared.act.Act.TheVariants as act
use Rattle.law_results_reads.specs.Below.server_model.Work.{Work, note, with_partition, leads_here, look}
use Rattle.law_results_reads.specs.Below.server_model.NewWords.{NewWord, can_grow, is_last, issue_tint, issue_renewal, issue_colour}
use Rattle.law_results_reads.proofs.Below.law_counts_sums.Cells.{indexed}
use Rattle.law_results_reads.proofs.Below.law_words_paths.paths.Sole.{some_is}
use Rattle.law_heap_still.proofs.events.Addresses.{InPlace, next_empty, stored_places, renews}

-- the word is of this server, leads to that cell, and its colour is below the limit
pub record Leads (p : PartitionState) (w : ℕ) (c : Cell) : Type 0 where
  pub server : server_of w ≡ p.server
  pub there : cell_of p w ≡ Some c
  pub colour : colour_of w < p.limit

pub looked : (p : PartitionState) (w : ℕ) (c : Cell) → look p w ≡ Some c → Leads p w c
looked p w c e = by (server_of w == p.server) (is_some (cell_of p w)) (nat_lt (colour_of w) p.limit) refl refl e
  where
    by : (a b d : Bool) → (server_of w == p.server) ≡ a → nat_lt (colour_of w) p.limit ≡ d → (if (a && b) && d then cell_of p w else None) ≡ Some c → Leads p w c
    by true true true f g h = record { server = grind (arith, nat_tests, f); there = h; colour = grind (arith, nat_tests, g) }
    by true true false f g h = absurd (cc h)
    by true false d f g h = absurd (cc h)
    by false b d f g h = absurd (cc h)

all_three : (a b c : Bool) → a ≡ true → b ≡ true → c ≡ true → ((a && b) && c) ≡ true
all_three true true true a b c = refl
all_three true true false a b c = absurd (cc c)
all_three true false c a b d = absurd (cc b)
all_three false b c a d e = absurd (cc a)

pub leads_on : (p : PartitionState) (w : ℕ) (c : Cell) → Leads p w c → leads_here p w ≡ true
leads_on p w c l =
    let server : (server_of w == p.server) ≡ true = (let e = l.server in grind (arith, nat_tests, e)) in
    let below : nat_lt (colour_of w) p.limit ≡ true = (let e = l.colour in grind (arith, nat_tests, e)) in
    all_three (server_of w == p.server) (is_some (cell_of p w)) (nat_lt (colour_of w) p.limit) server (ap is_some l.there) below

pub looks : (p : PartitionState) (w : ℕ) (c : Cell) → Leads p w c → look p w ≡ Some c
looks p w c l = ap (λ b. if b then cell_of p w else None) (leads_on p w c l) ∙ l.there

-- words of different objects lead to different addresses
apart : (p : PartitionState) (w v : ℕ) (c d : Cell) → Leads p w c → Leads p v d → (d.object ≡ c.object → ⊥) → address_of v ≢ address_of w
apart p w v c d l m ne = λ (e : address_of v ≡ address_of w). ne (ap (λ (x : Cell). x.object) (some_is (sym m.there ∙ ap (λ a. slice_index_or p.cells a None) e ∙ l.there)))

-- A CELL GETS A VALUE

pub stored_elsewhere : (p : PartitionState) (w v : ℕ) (c d : Cell) (u : Owned) → Leads p w c → Leads p v d → (d.object ≡ c.object → ⊥) → Leads (stored p w u) v d
stored_elsewhere p w v c d u l m ne = record {
  server = m.server;
  there = get_or-set_other p.cells (address_of w) (address_of v) (with_value u (cell_of p w)) None (apart p w v c d l m ne) ∙ m.there;
  colour = m.colour;
}

-- WHAT A PARTITION HAS IN THE MIDDLE OF AN EVENT

-- each address has one state, and the next colour of a free one is below the limit
pub record Sane (p : PartitionState) : Type 0 where
  pub small : p.server < 2 ^ 8
  pub placed : InPlace p.server p
  pub colours : AllByRecursion (λ (pair : ℕ × ℕ). pair.1 < p.limit) p.free

pub stored_sane : (p : PartitionState) (w : ℕ) (c : Cell) (u : Owned) → Leads p w c → Sane p → Sane (stored p w u)
stored_sane p w c u l s = record { small = s.small; placed = stored_places p.server p w c u (looks p w c l) s.placed; colours = s.colours }

-- THE NEXT ADDRESS

index_within : (xs : List (Option Cell)) (a : ℕ) (d : Cell) → slice_index_or xs a None ≡ Some d → a < length xs
index_within xs a d e = slice_get_within xs a (Some d) (indexed xs a d e)

record Next (p : PartitionState) (n : ℕ × ℕ) : Type 0 where
  within : n.0 ≤ length p.cells
  colour : n.1 < p.limit
  vacant : (a : ℕ) (d : Cell) → slice_index_or p.cells a None ≡ Some d → a ≢ n.0

next_is : (p : PartitionState) → Sane p → 1 ≤ p.limit → Next p (picked p.free (length p.cells))
next_is p s some = by p.free refl
  where
    by : (fl : List (ℕ × ℕ)) → p.free ≡ fl → Next p (picked fl (length p.cells))
    by [] e = record { within = omega arith; colour = omega (arith, some); vacant = λ a d f. λ (q : a ≡ length p.cells). omega (arith, q, index_within p.cells a d f) }
    by (pair ∷ rest) e =
        let free : slice_get p.cells pair.0 ≡ Some None = next_empty p.server p s.placed pair rest e in
        let all : AllByRecursion (λ (x : ℕ × ℕ). x.1 < p.limit) (pair ∷ rest) = subst (AllByRecursion (λ (x : ℕ × ℕ). x.1 < p.limit)) e s.colours in
        record {
          within = omega (arith, slice_get_within p.cells pair.0 None free);
          colour = all.0;
          vacant = λ a d f. λ (q : a ≡ pair.0). (let no : Some None ≡ Some (Some d) = sym free ∙ ap (slice_get p.cells) (sym q) ∙ indexed p.cells a d f in absurd (cc no));
        }

put_elsewhere : (xs : List (Option Cell)) (a b : ℕ) (c d : Cell) → b ≢ a → slice_index_or xs b None ≡ Some d → slice_index_or (put_cell xs a c) b None ≡ Some d
put_elsewhere xs a b c d ne e = by (a == length xs)
  where
    by : (q : Bool) → slice_index_or (if q then xs ++ Some c ∷ [] else slice_set xs a (Some c)) b None ≡ Some d
    by true = get_or_append_left xs (Some c ∷ []) None b (index_within xs b d e) ∙ e
    by false = get_or-set_other xs a b (Some c) None ne ∙ e

at_end : (xs : List (Option Cell)) (c : Cell) → slice_index_or (xs ++ Some c ∷ []) (length xs) None ≡ Some c
at_end [] c = refl
at_end (x ∷ xs) c = at_end xs c

put_here : (xs : List (Option Cell)) (a : ℕ) (c : Cell) → a ≤ length xs → slice_index_or (put_cell xs a c) a None ≡ Some c
put_here xs a c l = by (a == length xs) refl
  where
    by : (q : Bool) → (a == length xs) ≡ q → slice_index_or (if q then xs ++ Some c ∷ [] else slice_set xs a (Some c)) a None ≡ Some c
    by true e = let same : a ≡ length xs = grind (arith, nat_tests, e) in subst (λ i. slice_index_or (xs ++ Some c ∷ []) i None ≡ Some c) (sym same) (at_end xs c)
    by false e = let less : a < length xs = grind (arith, nat_tests, e, l) in get_or-set_same xs a (Some c) None less

put_longer : (xs : List (Option Cell)) (a : ℕ) (c : Cell) → length (put_cell xs a c) ≤ length xs + 1
put_longer xs a c = by (a == length xs)
  where
    by : (q : Bool) → length (if q then xs ++ Some c ∷ [] else slice_set xs a (Some c)) ≤ length xs + 1
    by true = omega (arith, length-append xs (Some c ∷ []))
    by false = omega (arith, length-set xs a (Some c))

-- AN OBJECT COMES

-- words lead where they led
pub made_leads : (p : PartitionState) (c : Cell) → Sane p → (v : ℕ) (d : Cell) → Leads p v d → Leads (made p c) v d
made_leads p c s v d l =
    let n = next_is p s (let e = l.colour in omega (arith, e)) in
    record { server = l.server; there = put_elsewhere p.cells (next_place p).0 (address_of v) c d (n.vacant (address_of v) d l.there) l.there; colour = l.colour }

pub made_longer : (p : PartitionState) (c : Cell) → length (made p c).cells ≤ length p.cells + 1
made_longer p c = put_longer p.cells (next_place p).0 c

-- AN OBJECT GETS ANOTHER ADDRESS

fewer : (limit : ℕ) (xs : List (ℕ × ℕ)) → AllByRecursion (λ (x : ℕ × ℕ). x.1 < limit) xs → AllByRecursion (λ (x : ℕ × ℕ). x.1 < limit) (rest_of xs)
fewer limit [] a = a
fewer limit (x ∷ xs) a = a.1

-- what a change of the partition gives: that word leads to the cell, and words of other objects lead where they led
pub record Given (p q : PartitionState) (w : ℕ) (c : Cell) : Type 0 where
  pub server : q.server ≡ p.server
  pub limit : q.limit ≡ p.limit
  pub new : Leads q w c
  pub others : (v : ℕ) (d : Cell) → Leads p v d → (d.object ≡ c.object → ⊥) → Leads q v d
  pub sane : Sane q
  pub longer : length q.cells ≤ length p.cells + 1

abbrev bare : PartitionState → Rest
bare p = record { number = p.server; partition = p; cache = []; mutexes = no_mutexes 0; tasks = []; inbox = []; outbox = []; started = 0 }

module _ (p : PartitionState) (w : ℕ) (c : Cell) (s : Sane p) (l : Leads p w c) (last : colour_of w + 1 ≡ p.limit) (room : length p.cells < 2 ^ 40) where
  abbrev q : PartitionState
  q = freed p w

  abbrev z : PartitionState
  z = made q c

  free_stays : q.free ≡ p.free
  free_stays = let test : nat_lt (colour_of w + 1) p.limit ≡ false = grind (arith, nat_tests, last) in ap (λ b. if b then (address_of w, colour_of w + 1) ∷ p.free else p.free) test

  long : length q.cells ≡ length p.cells
  long = length-set p.cells (address_of w) None

  next : Next p (next_place q)
  next = subst (Next p) (sym (ap₂ picked free_stays long)) (next_is p s (omega (arith, last)))

  abbrev a : ℕ
  a = (next_place q).0

  parts : (colour_of (new_word q) ≡ (next_place q).1) × (server_of (new_word q) ≡ p.server) × (address_of (new_word q) ≡ a)
  parts = packed (next_place q).1 p.server a s.small (omega (arith, next.within, room))

  same : renewed p w ≡ z
  same = ap (made_again q) l.there

  other_there : (v : ℕ) (d : Cell) → Leads p v d → (d.object ≡ c.object → ⊥) → Leads z v d
  other_there v d m ne = record {
    server = m.server;
    there = put_elsewhere q.cells a (address_of v) c d (next.vacant (address_of v) d m.there) (get_or-set_other p.cells (address_of w) (address_of v) None None (apart p w v c d l m ne) ∙ m.there);
    colour = m.colour;
  }

  new_there : Leads z (new_word q) c
  new_there = record {
    server = parts.1;
    there = ap (λ i. slice_index_or z.cells i None) parts.2 ∙ put_here q.cells a c (omega (arith, next.within, long));
    colour = omega (arith, parts.0, next.colour);
  }

  placed_there : InPlace p.server (renewed p w)
  placed_there = (renews (bare p) w (leads_on p w c l) s.placed).1

  pub renewal_gives : Given p (renewed p w) (new_word q) c
  renewal_gives = subst (λ (x : PartitionState). Given p x (new_word q) c) (sym same)
      (record {
        server = refl;
        limit = refl;
        new = new_there;
        others = other_there;
        sane = record { small = s.small; placed = subst (InPlace p.server) same placed_there; colours = fewer p.limit q.free (subst (AllByRecursion (λ (x : ℕ × ℕ). x.1 < p.limit)) (sym free_stays) s.colours) };
        longer = omega (arith, put_longer q.cells a c, long);
      })

-- NEW WORDS

-- a new word is issued: of the server nothing changes but the partition
pub record Issues (x : Work) (c : Cell) (n : NewWord) : Type 0 where
  pub rest : n.work.rest ≡ record x.rest { partition = n.work.rest.partition }
  pub given : Given x.rest.partition n.work.rest.partition n.word c

pub renewal_issued : (b : BoxPtr) (x : Work) (c : Cell) → Sane x.rest.partition → Leads x.rest.partition b.word c → colour_of b.word + 1 ≡ x.rest.partition.limit → length x.rest.partition.cells < 2 ^ 40 → (n : NewWord) × (issue_renewal b x ≡ Some n) × Issues x c n
renewal_issued b x c s l last room =
    let q : PartitionState = freed x.rest.partition b.word in
    let new : NewWord = record { word = new_word q; work = note (act.Renew b.object b.word (new_word q)) (with_partition (renewed x.rest.partition b.word) x) } in
    (new, ap (λ t. if t then Some new else None) test, record { rest = refl; given = renewal_gives x.rest.partition b.word c s l last room })
  where
    both : (a b c : Bool) → a ≡ true → b ≡ true → c ≡ true → (a && (b && c)) ≡ true
    both true true true a b c = refl
    both true true false a b c = absurd (cc c)
    both true false c a b d = absurd (cc b)
    both false b c a d e = absurd (cc a)

    test : (leads_here x.rest.partition b.word && (is_last x.rest.partition b.word && can_grow x.rest.partition)) ≡ true
    test =
        let at_last : is_last x.rest.partition b.word ≡ true = grind (arith, nat_tests, last) in
        let grows : can_grow x.rest.partition ≡ true = grind (arith, nat_tests, room) in
        both (leads_here x.rest.partition b.word) (is_last x.rest.partition b.word) (can_grow x.rest.partition) (leads_on x.rest.partition b.word c l) at_last grows

tint_leads : (p : PartitionState) (w : ℕ) (c : Cell) → Leads p w c → colour_of w + 1 < p.limit → Leads p (next_word w) c
tint_leads p w c l below =
    let s : server_of (next_word w) ≡ server_of w = omega arith in
    let t : address_of (next_word w) ≡ address_of w = omega arith in
    let k : colour_of (next_word w) ≡ colour_of w + 1 = omega arith in
    record { server = s ∙ l.server; there = ap (λ i. slice_index_or p.cells i None) t ∙ l.there; colour = omega (arith, k, below) }

pub tint_issued : (b : BoxPtr) (x : Work) (c : Cell) → Sane x.rest.partition → Leads x.rest.partition b.word c → colour_of b.word + 1 < x.rest.partition.limit → Issues x c (issue_tint b x)
tint_issued b x c s l below = record { rest = refl; given = record { server = refl; limit = refl; new = tint_leads x.rest.partition b.word c l below; others = λ v d m ne. m; sane = s; longer = omega arith } }

-- a box whose object is here gets a new word
pub colour_issued : (b : BoxPtr) (x : Work) (c : Cell) → Sane x.rest.partition → Leads x.rest.partition b.word c → length x.rest.partition.cells < 2 ^ 40 → (n : NewWord) × (issue_colour b x ≡ Some n) × Issues x c n
colour_issued b x c s l room = by (nat_lt (colour_of b.word + 1) x.rest.partition.limit) refl
  where
    by : (t : Bool) → nat_lt (colour_of b.word + 1) x.rest.partition.limit ≡ t → (n : NewWord) × ((if t then Some (issue_tint b x) else issue_renewal b x) ≡ Some n) × Issues x c n
    by true e = (issue_tint b x, refl, tint_issued b x c s l (grind (arith, nat_tests, e)))
    by false e =
        let none : x.rest.partition.limit ≤ colour_of b.word + 1 = grind (arith, nat_tests, e) in
        let colour = l.colour in
        renewal_issued b x c s l (omega (arith, none, colour)) room
