-- What the two parts of a fork say of all its places.
use Rattle.std.proofs.Common.{◌≡◌, ℕ, ◌+◌, ◌-◌, ◌<◌, ◌≤◌, ◌^◌, Bool, true, false, true≢false, nat_lt, is_some, if◌then◌else◌, List, [], ◌∷◌, ◌++◌, length, slice_get, Option, None, Some, Box, Result, Ok, Err, OnOk, OnErr, refl, sym, subst, ap, ◌∙◌, arith, length-append}
use Rattle.std.proofs.lemmas.Bool.{lt-ltb, le-ltb, ltb-true, ltb-false}
use Rattle.std.specs.declared.alloc.Global.{Global}
use Rattle.rank_map.specs.Places.{Place, place_at, item_in, has_place, item_at, with_place, count_of, entries, Rises}
use Rattle.rank_map.specs.declared.tree.Fork.{Fork as Parts}
use Rattle.rank_map.specs.Blocks.{BlockView}
use Rattle.rank_map.specs.declared.tree.Node.{Node}
use Rattle.rank_map.specs.declared.tree.Node.TheVariants.{Leaf, Fork}
use Rattle.rank_map.specs.Nodes.{IsFork, IsNode, places_in}
use Rattle.rank_map.proofs.PlaceLemmas.{at_low, at_high, with_low, with_high, rises_with, rises_bounds, rises_append, rises_wider, count_with, few_entries, entries_append, entries_free, get_append, below_all, above_all, with_below, with_some, append_none}

-- places in two parts
pub record AtFork {T : Type 0} (v : List (Place T)) (from middle to items : ℕ) (low high : List (Place T)) : Type 0 where
  pub places : v ≡ low ++ high
  pub fork : IsFork from middle to items low high

-- each part has fewer places
pub low_less : {T : Type 0} {v low high : List (Place T)} {from middle to n : ℕ} → AtFork v from middle to n low high → length low < length v
low_less {low = low} {high} a = omega (arith, ap length a.places, length-append low high, a.fork.high_some)

pub high_less : {T : Type 0} {v low high : List (Place T)} {from middle to n : ℕ} → AtFork v from middle to n low high → length high < length v
high_less {low = low} {high} a = omega (arith, ap length a.places, length-append low high, a.fork.low_some)

-- how many items there are
pub fork_len : {T : Type 0} {v low high : List (Place T)} {from middle to n : ℕ} → AtFork v from middle to n low high → n ≡ length (entries v)
fork_len {low = low} {high} a =
    a.fork.count ∙ sym (ap (λ ps. length (entries ps)) a.places ∙ ap length (entries_append low high) ∙ length-append (entries low) (entries high))

-- a key below the middle is looked for in the lower part
pub low_item : {T : Type 0} {v low high : List (Place T)} {from middle to n : ℕ} (k : ℕ) → AtFork v from middle to n low high → k < middle → place_at v k ≡ place_at low k
low_item {low = low} {high} {from} {middle} {to} k a h = ap (λ ps. place_at ps k) a.places ∙ at_low low high middle to k a.fork.high_rises h

pub high_item : {T : Type 0} {v low high : List (Place T)} {from middle to n : ℕ} (k : ℕ) → AtFork v from middle to n low high → middle ≤ k → place_at v k ≡ place_at high k
high_item {low = low} {high} {from} {middle} {to} k a h = ap (λ ps. place_at ps k) a.places ∙ at_high low high from middle k a.fork.low_rises h

-- an item of the lower part has the same rank among all
pub low_rank : {T : Type 0} {v low high : List (Place T)} {from middle to n : ℕ} (i : ℕ) → AtFork v from middle to n low high → i < length (entries low) → slice_get (entries v) i ≡ slice_get (entries low) i
low_rank {low = low} {high} i a h =
    ap (λ ps. slice_get (entries ps) i) a.places ∙ ap (λ es. slice_get es i) (entries_append low high) ∙ get_append (entries low) (entries high) i
    ∙ ap (λ b. if b then slice_get (entries low) i else slice_get (entries high) (i - length (entries low))) (lt-ltb i (length (entries low)) h)

pub high_rank : {T : Type 0} {v low high : List (Place T)} {from middle to n : ℕ} (i : ℕ) → AtFork v from middle to n low high → length (entries low) ≤ i → slice_get (entries v) i ≡ slice_get (entries high) (i - length (entries low))
high_rank {low = low} {high} i a h =
    ap (λ ps. slice_get (entries ps) i) a.places ∙ ap (λ es. slice_get es i) (entries_append low high) ∙ get_append (entries low) (entries high) i
    ∙ ap (λ b. if b then slice_get (entries low) i else slice_get (entries high) (i - length (entries low))) (le-ltb i (length (entries low)) h)

-- a key that has a place is within the bounds
pub place_bounds : {T : Type 0} (ps : List (Place T)) (low high k : ℕ) → Rises low high ps → has_place ps k ≡ true → (low ≤ k) × (k < high)
place_bounds ps low high k r h = (by_low (nat_lt k low) refl, by_high (nat_lt k high) refl)
  where
    none : place_at ps k ≡ None → true ≡ false
    none e = sym h ∙ ap is_some e

    by_low : (b : Bool) → nat_lt k low ≡ b → low ≤ k
    by_low true e = absurd (true≢false (none (below_all ps low high k r (ltb-true k low e))))
    by_low false e = ltb-false k low e

    by_high : (b : Bool) → nat_lt k high ≡ b → k < high
    by_high true e = ltb-true k high e
    by_high false e = absurd (true≢false (none (above_all ps low high k r (ltb-false k high e))))

-- the places of both parts rise
pub both_rise : {T : Type 0} {v low high : List (Place T)} {from middle to n : ℕ} → AtFork v from middle to n low high → Rises from to v
both_rise {low = low} {high} {from} {middle} {to} a = subst (Rises from to) (sym a.places) (rises_append low high from middle to a.fork.low_rises a.fork.high_rises)

-- what is seen of a tree whose node is a fork
pub at_fork : {T : Type 0} {v : List (Place T)} {node : Node T} {fork : Box (Parts T) Global} {f : Parts T} → places_in node ≡ v → IsNode node → node ≡ Fork fork → f ≡ fork.value → AtFork v f.from f.middle f.to f.count f.low f.high
at_fork {v = v} view_is good is same =
    subst (λ f. AtFork v f.from f.middle f.to f.count f.low f.high) (sym same) (record { places = sym view_is ∙ ap places_in is; fork = subst IsNode is good })

-- a leaf's places are its block's
pub at_leaf : {T : Type 0} {v : List (Place T)} {node : Node T} {block : BlockView T} → places_in node ≡ v → node ≡ Leaf block → block.places ≡ v
at_leaf view_is is = sym (ap places_in is) ∙ view_is

-- what a tree is seen as once one of its parts was changed at a key
pub record IsSeen {T : Type 0} (v : List (Place T)) (k : ℕ) (new : Option (Option T)) (from middle to items : ℕ) (low high : List (Place T)) : Type 0 where
  pub fork : IsFork from middle to items low high
  pub seen : low ++ high ≡ with_place v k new

-- the change is in the lower part; the number of items changes by what came and what went
pub low_seen : {T : Type 0} {v low high low2 : List (Place T)} {from middle to n m : ℕ} {k : ℕ} {new : Option (Option T)} {old : Option T} → AtFork v from middle to n low high → has_place v k ≡ true → k < middle
    → low2 ≡ with_place low k new → 0 < length low2 → old ≡ item_at low k → m + count_of old ≡ n + count_of (item_in new) → IsSeen v k new from middle to m low2 high
low_seen {v = v} {low} {high} {low2} {from} {middle} {to} {n} {m} {k} {new} a there h is some item count =
    let bounds = place_bounds v from to k (both_rise a) there in
    let here = sym (ap is_some (low_item k a h)) ∙ there in
    let change = count_with low from middle k new a.fork.low_rises here in
    record {
      fork = record {
        few = a.fork.few;
        low_rises = subst (Rises from middle) (sym is) (rises_with low from middle k new a.fork.low_rises bounds.0 h);
        high_rises = a.fork.high_rises;
        low_some = some;
        high_some = a.fork.high_some;
        count = omega (arith, count, change, ap count_of item, a.fork.count, ap (λ ps. length (entries ps)) is);
      };
      seen = ap (λ ps. ps ++ high) is ∙ sym (ap (λ ps. with_place ps k new) a.places ∙ with_low low high middle to k new a.fork.high_rises h);
    }

pub high_seen : {T : Type 0} {v low high high2 : List (Place T)} {from middle to n m : ℕ} {k : ℕ} {new : Option (Option T)} {old : Option T} → AtFork v from middle to n low high → has_place v k ≡ true → middle ≤ k
    → high2 ≡ with_place high k new → 0 < length high2 → old ≡ item_at high k → m + count_of old ≡ n + count_of (item_in new) → IsSeen v k new from middle to m low high2
high_seen {v = v} {low} {high} {high2} {from} {middle} {to} {n} {m} {k} {new} a there h is some item count =
    let bounds = place_bounds v from to k (both_rise a) there in
    let here = sym (ap is_some (high_item k a h)) ∙ there in
    let change = count_with high middle to k new a.fork.high_rises here in
    record {
      fork = record {
        few = a.fork.few;
        low_rises = a.fork.low_rises;
        high_rises = subst (Rises middle to) (sym is) (rises_with high middle to k new a.fork.high_rises h bounds.1);
        low_some = a.fork.low_some;
        high_some = some;
        count = omega (arith, count, change, ap count_of item, a.fork.count, ap (λ ps. length (entries ps)) is);
      };
      seen = ap (λ ps. low ++ ps) is ∙ sym (ap (λ ps. with_place ps k new) a.places ∙ with_high low high from middle k new a.fork.low_rises h);
    }

-- the item that goes is one of those that are counted, and there are fewer items than keys
counted_item : {T : Type 0} (ps : List (Place T)) (low high k : ℕ) → Rises low high ps → has_place ps k ≡ true → count_of (item_at ps k) ≤ length (entries ps)
counted_item ps low high k r h = let change = count_with ps low high k None r h in omega (arith, change)

few_in_both : {T : Type 0} {from middle to n : ℕ} {low high : List (Place T)} → IsFork from middle to n low high → n ≤ 2 ^ 40
few_in_both {from = from} {middle} {to} {n} {low} {high} f =
    let a = few_entries low from middle f.low_rises in
    let b = few_entries high middle to f.high_rises in
    omega (arith, a, b, f.few, f.count)

pub low_counted : {T : Type 0} {v low high : List (Place T)} {from middle to n : ℕ} {k : ℕ} {old : Option T} → AtFork v from middle to n low high → has_place v k ≡ true → k < middle → old ≡ item_at low k → (count_of old ≤ n) × (n ≤ 2 ^ 40)
low_counted {low = low} {from = from} {middle} {k = k} a there h item =
    let here = sym (ap is_some (low_item k a h)) ∙ there in
    let least = counted_item low from middle k a.fork.low_rises here in
    (omega (arith, least, ap count_of item, a.fork.count), few_in_both a.fork)

pub high_counted : {T : Type 0} {v low high : List (Place T)} {from middle to n : ℕ} {k : ℕ} {old : Option T} → AtFork v from middle to n low high → has_place v k ≡ true → middle ≤ k → old ≡ item_at high k → (count_of old ≤ n) × (n ≤ 2 ^ 40)
high_counted {high = high} {from = from} {middle} {to} {k = k} a there h item =
    let here = sym (ap is_some (high_item k a h)) ∙ there in
    let least = counted_item high middle to k a.fork.high_rises here in
    (omega (arith, least, ap count_of item, a.fork.count), few_in_both a.fork)

-- the last place of a part goes, and the other part is what is left
pub low_emptied : {T : Type 0} {v low high low2 : List (Place T)} {from middle to n k : ℕ} → AtFork v from middle to n low high → k < middle → low2 ≡ with_place low k None → low2 ≡ [] → high ≡ with_place v k None
low_emptied {low = low} {high} {middle = middle} {to} {k = k} a h is none =
    sym (ap (λ ps. with_place ps k None) a.places ∙ with_low low high middle to k None a.fork.high_rises h ∙ ap (λ ps. ps ++ high) (sym is ∙ none))

pub high_emptied : {T : Type 0} {v low high high2 : List (Place T)} {from middle to n k : ℕ} → AtFork v from middle to n low high → middle ≤ k → high2 ≡ with_place high k None → high2 ≡ [] → low ≡ with_place v k None
high_emptied {low = low} {high} {from = from} {middle} {k = k} a h is none =
    sym (ap (λ ps. with_place ps k None) a.places ∙ with_high low high from middle k None a.fork.low_rises h ∙ ap (λ ps. low ++ ps) (sym is ∙ none) ∙ append_none low)

-- a free place that was to be made, where memory may have lacked
pub record IsReserved {T X E : Type 0} (v : List (Place T)) (k : ℕ) (r : Result X E) (from middle to items : ℕ) (low high : List (Place T)) : Type 0 where
  pub fork : IsFork from middle to items low high
  pub ok : OnOk r (low ++ high ≡ with_place v k (Some None))
  pub err : OnErr r (low ++ high ≡ v)

pub low_reserved : {T X E : Type 0} {v low high low2 : List (Place T)} {from middle to n : ℕ} (k : ℕ) (r : Result X E) → AtFork v from middle to n low high → has_place v k ≡ false → from ≤ k → k < middle
    → OnOk r (low2 ≡ with_place low k (Some None)) → OnErr r (low2 ≡ low) → IsReserved v k r from middle to n low2 high
low_reserved {v = v} {low} {high} {low2} {from} {middle} {to} {n} k (Ok x) a new b h is same =
    let free = entries_free low k (sym (ap is_some (low_item k a h)) ∙ new) in
    record {
      fork = record {
        few = a.fork.few;
        low_rises = subst (Rises from middle) (sym is) (rises_with low from middle k (Some None) a.fork.low_rises b h);
        high_rises = a.fork.high_rises;
        low_some = subst (λ ps. 0 < length ps) (sym is) (with_some low k None);
        high_some = a.fork.high_some;
        count = a.fork.count ∙ ap (λ es. length es + length (entries high)) (sym (ap entries is ∙ free));
      };
      ok = ap (λ ps. ps ++ high) is ∙ sym (ap (λ ps. with_place ps k (Some None)) a.places ∙ with_low low high middle to k (Some None) a.fork.high_rises h);
      err = tt;
    }
low_reserved {v = v} {low} {high} {low2} {from} {middle} {to} {n} k (Err e) a new b h is same =
    record { fork = subst (λ ps. IsFork from middle to n ps high) (sym same) a.fork; ok = tt; err = ap (λ ps. ps ++ high) same ∙ sym a.places }

pub high_reserved : {T X E : Type 0} {v low high high2 : List (Place T)} {from middle to n : ℕ} (k : ℕ) (r : Result X E) → AtFork v from middle to n low high → has_place v k ≡ false → middle ≤ k → k < to
    → OnOk r (high2 ≡ with_place high k (Some None)) → OnErr r (high2 ≡ high) → IsReserved v k r from middle to n low high2
high_reserved {v = v} {low} {high} {high2} {from} {middle} {to} {n} k (Ok x) a new h b is same =
    let free = entries_free high k (sym (ap is_some (high_item k a h)) ∙ new) in
    record {
      fork = record {
        few = a.fork.few;
        low_rises = a.fork.low_rises;
        high_rises = subst (Rises middle to) (sym is) (rises_with high middle to k (Some None) a.fork.high_rises h b);
        low_some = a.fork.low_some;
        high_some = subst (λ ps. 0 < length ps) (sym is) (with_some high k None);
        count = a.fork.count ∙ ap (λ es. length (entries low) + length es) (sym (ap entries is ∙ free));
      };
      ok = ap (λ ps. low ++ ps) is ∙ sym (ap (λ ps. with_place ps k (Some None)) a.places ∙ with_high low high from middle k (Some None) a.fork.low_rises h);
      err = tt;
    }
high_reserved {v = v} {low} {high} {high2} {from} {middle} {to} {n} k (Err e) a new h b is same =
    record { fork = subst (λ ps. IsFork from middle to n low ps) (sym same) a.fork; ok = tt; err = ap (λ ps. low ++ ps) same ∙ sym a.places }

-- where there is a place, some key is among the bounds
pub bounds_apart : {T : Type 0} (ps : List (Place T)) (low high : ℕ) → Rises low high ps → 0 < length ps → low < high
bounds_apart [] low high r some = absurd (omega (arith, some))
bounds_apart (p ∷ ps) low high r some = let above = rises_bounds ps (p.key + 1) high r.1 in omega (arith, r.0, above)

-- one free place below all others, or above them
pub record IsAdded {T : Type 0} (v : List (Place T)) (k from middle to items : ℕ) (low high : List (Place T)) : Type 0 where
  pub fork : IsFork from middle to items low high
  pub seen : low ++ high ≡ with_place v k (Some None)

pub added_below : {T : Type 0} {v leaf : List (Place T)} {k from to lower middle upper n : ℕ} → Rises from to v → 0 < length v → k < middle → middle ≤ from → lower ≤ k → to ≤ upper → upper ≤ 2 ^ 40
    → leaf ≡ record { key = k; item = None } ∷ [] → n ≡ length (entries v) → IsAdded v k lower middle upper n leaf v
added_below {T} {v} {leaf} {k} {from} {to} {lower} {middle} {upper} {n} r some above within least most few is count =
    subst (λ ps. IsAdded v k lower middle upper n ps v) (sym is)
    (record {
      fork = record {
        few = few;
        low_rises = (least, omega (arith, above));
        high_rises = rises_wider v middle from to upper within most r;
        low_some = omega arith;
        high_some = some;
        count = omega (arith, count);
      };
      seen = sym (with_below v from to k (Some None) r (omega (arith, above, within)));
    })

pub added_above : {T : Type 0} {v leaf : List (Place T)} {k from to lower middle upper n : ℕ} → Rises from to v → 0 < length v → to ≤ middle → middle ≤ k → lower ≤ from → k < upper → upper ≤ 2 ^ 40
    → leaf ≡ record { key = k; item = None } ∷ [] → n ≡ length (entries v) → IsAdded v k lower middle upper n v leaf
added_above {T} {v} {leaf} {k} {from} {to} {lower} {middle} {upper} {n} r some above within least most few is count =
    subst (λ ps. IsAdded v k lower middle upper n v ps) (sym is)
    (record {
      fork = record {
        few = few;
        low_rises = rises_wider v lower from to middle least above r;
        high_rises = (within, omega (arith, most));
        low_some = some;
        high_some = omega arith;
        count = omega (arith, count);
      };
      seen = sym (ap (λ ps. with_place ps k (Some None)) (sym (append_none v)) ∙ with_high v [] from to k (Some None) r (omega (arith, above, within)));
    })
