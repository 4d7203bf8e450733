-- Where a walk over stars stops: the stars before it are ready, one by one, and there something is asked for.
use Rattle.std.proofs.Common.{◌≡◌, ℕ, zero, suc, ◌+◌, ◌<◌, refl, ap, subst, ◌∙◌, arith}
use Rattle.law_walks_others.specs.Below.server_model.Work.{Hand}
use Rattle.law_walks_others.specs.Below.server_model.Places.{Spot}
use Rattle.law_walks_others.specs.Below.server_model.Prepare.{Prepared, ready, requested, nothing, and_then, read_star, read_stars, write_star, write_stars}

first_number : (m : ℕ) → m ≡ m + 0
first_number m = omega arith

next_number : (m i : ℕ) → m + 1 + i ≡ m + suc i
next_number m i = omega arith

-- A WRITE

-- a star with that number that is ready, with what is ready before it
pub record Written (m : ℕ) (h : Hand) (s : Spot) (i : ℕ) : Type 0 where
  pub hand : Hand
  pub spot : Spot
  pub next : Hand
  pub behind : Spot
  pub so_far : write_stars i m h s ≡ ready hand spot
  pub star : write_star (m + i) hand spot ≡ ready next behind
  pub one_more : write_stars (suc i) m h s ≡ ready next behind

-- each star of a walk that is ready
pub all_written : (d m : ℕ) (h : Hand) (s : Spot) (h2 : Hand) (s2 : Spot) → write_stars d m h s ≡ ready h2 s2 → (i : ℕ) → i < d → Written m h s i
all_written zero m h s h2 s2 e i lt = absurd (omega (arith, lt))
all_written (suc d) m h s h2 s2 e i lt = by (λ h1 s1 f j l. all_written d (m + 1) h1 s1 h2 s2 f j l) (write_star m h s) refl e i lt
  where
    by : ((h1 : Hand) (s1 : Spot) → write_stars d (m + 1) h1 s1 ≡ ready h2 s2 → (i : ℕ) → i < d → Written (m + 1) h1 s1 i) → (p : Prepared) → write_star m h s ≡ p → and_then (write_stars d (m + 1)) p ≡ ready h2 s2 → (i : ℕ) → i < suc d → Written m h s i
    by go (ready h1 s1) q f zero lt = record {
      hand = h;
      spot = s;
      next = h1;
      behind = s1;
      so_far = refl;
      star = subst (λ j. write_star j h s ≡ ready h1 s1) (first_number m) q;
      one_more = ap (and_then (write_stars zero (m + 1))) q;
    }
    by go (ready h1 s1) q f (suc i) lt =
        let b = go h1 s1 f i (omega (arith, lt)) in record {
          hand = b.hand;
          spot = b.spot;
          next = b.next;
          behind = b.behind;
          so_far = ap (and_then (write_stars i (m + 1))) q ∙ b.so_far;
          star = subst (λ j. write_star j b.hand b.spot ≡ ready b.next b.behind) (next_number m i) b.star;
          one_more = ap (and_then (write_stars (suc i) (m + 1))) q ∙ b.one_more;
        }
    by go (requested h1) q f i lt = absurd (cc f)
    by go nothing q f i lt = absurd (cc f)

-- the star at which something is asked for
pub record WriteStops (d m : ℕ) (h : Hand) (s : Spot) (h2 : Hand) : Type 0 where
  pub number : ℕ
  pub less : number < d
  pub hand : Hand
  pub spot : Spot
  pub so_far : write_stars number m h s ≡ ready hand spot
  pub asks : write_star (m + number) hand spot ≡ requested h2

pub write_stops : (d m : ℕ) (h : Hand) (s : Spot) (h2 : Hand) → write_stars d m h s ≡ requested h2 → WriteStops d m h s h2
write_stops zero m h s h2 e = absurd (cc e)
write_stops (suc d) m h s h2 e = by (λ h1 s1 f. write_stops d (m + 1) h1 s1 h2 f) (write_star m h s) refl e
  where
    by : ((h1 : Hand) (s1 : Spot) → write_stars d (m + 1) h1 s1 ≡ requested h2 → WriteStops d (m + 1) h1 s1 h2) → (p : Prepared) → write_star m h s ≡ p → and_then (write_stars d (m + 1)) p ≡ requested h2 → WriteStops (suc d) m h s h2
    by go (ready h1 s1) q f =
        let b = go h1 s1 f in
        let lt = b.less in record {
          number = suc b.number;
          less = omega (arith, lt);
          hand = b.hand;
          spot = b.spot;
          so_far = ap (and_then (write_stars b.number (m + 1))) q ∙ b.so_far;
          asks = subst (λ j. write_star j b.hand b.spot ≡ requested h2) (next_number m b.number) b.asks;
        }
    by go (requested h1) q f = record { number = 0; less = omega arith; hand = h; spot = s; so_far = refl; asks = subst (λ j. write_star j h s ≡ requested h2) (first_number m) (q ∙ f) }
    by go nothing q f = absurd (cc f)

-- A READ

-- a star with that number that is ready, with what is ready before it
pub record Read (h : Hand) (s : Spot) (i : ℕ) : Type 0 where
  pub hand : Hand
  pub spot : Spot
  pub next : Hand
  pub behind : Spot
  pub so_far : read_stars i h s ≡ ready hand spot
  pub star : read_star hand spot ≡ ready next behind
  pub one_more : read_stars (suc i) h s ≡ ready next behind

-- each star of a walk that is ready
pub all_read : (d : ℕ) (h : Hand) (s : Spot) (h2 : Hand) (s2 : Spot) → read_stars d h s ≡ ready h2 s2 → (i : ℕ) → i < d → Read h s i
all_read zero h s h2 s2 e i lt = absurd (omega (arith, lt))
all_read (suc d) h s h2 s2 e i lt = by (λ h1 s1 f j l. all_read d h1 s1 h2 s2 f j l) (read_star h s) refl e i lt
  where
    by : ((h1 : Hand) (s1 : Spot) → read_stars d h1 s1 ≡ ready h2 s2 → (i : ℕ) → i < d → Read h1 s1 i) → (p : Prepared) → read_star h s ≡ p → and_then (read_stars d) p ≡ ready h2 s2 → (i : ℕ) → i < suc d → Read h s i
    by go (ready h1 s1) q f zero lt = record { hand = h; spot = s; next = h1; behind = s1; so_far = refl; star = q; one_more = ap (and_then (read_stars zero)) q }
    by go (ready h1 s1) q f (suc i) lt =
        let b = go h1 s1 f i (omega (arith, lt)) in record {
          hand = b.hand;
          spot = b.spot;
          next = b.next;
          behind = b.behind;
          so_far = ap (and_then (read_stars i)) q ∙ b.so_far;
          star = b.star;
          one_more = ap (and_then (read_stars (suc i))) q ∙ b.one_more;
        }
    by go (requested h1) q f i lt = absurd (cc f)
    by go nothing q f i lt = absurd (cc f)

-- the star at which something is asked for
pub record ReadStops (d : ℕ) (h : Hand) (s : Spot) (h2 : Hand) : Type 0 where
  pub number : ℕ
  pub less : number < d
  pub hand : Hand
  pub spot : Spot
  pub so_far : read_stars number h s ≡ ready hand spot
  pub asks : read_star hand spot ≡ requested h2

pub read_stops : (d : ℕ) (h : Hand) (s : Spot) (h2 : Hand) → read_stars d h s ≡ requested h2 → ReadStops d h s h2
read_stops zero h s h2 e = absurd (cc e)
read_stops (suc d) h s h2 e = by (λ h1 s1 f. read_stops d h1 s1 h2 f) (read_star h s) refl e
  where
    by : ((h1 : Hand) (s1 : Spot) → read_stars d h1 s1 ≡ requested h2 → ReadStops d h1 s1 h2) → (p : Prepared) → read_star h s ≡ p → and_then (read_stars d) p ≡ requested h2 → ReadStops (suc d) h s h2
    by go (ready h1 s1) q f =
        let b = go h1 s1 f in
        let lt = b.less in
        record { number = suc b.number; less = omega (arith, lt); hand = b.hand; spot = b.spot; so_far = ap (and_then (read_stars b.number)) q ∙ b.so_far; asks = b.asks }
    by go (requested h1) q f = record { number = 0; less = omega arith; hand = h; spot = s; so_far = refl; asks = q ∙ f }
    by go nothing q f = absurd (cc f)
