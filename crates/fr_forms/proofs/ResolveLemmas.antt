-- The running term of a typed node is made of those of its parts.
use Rattle.std.proofs.Common.{◌≡◌, ℕ, zero, suc, ◌+◌, ◌<◌, ◌≤◌, ◌^◌, Bool, true, false, List, [], ◌∷◌, ◌++◌, length, Option, Some, None, refl, sym, ap, ap₂, ◌∙◌, subst, arith, length-append}
use Rattle.std.specs.Prelude.{not, slice_get, slice_index_or, unwrap_or, if◌then◌else◌, Box as Boxed}
use Rattle.std.specs.declared.alloc.Global.{Global}
use Rattle.fr_base.specs.declared.place.Lval.{Lval}
use Rattle.fr_terms.specs.Terms.{Spot, Captured, block_t, let_t, assign_t, read_t, borrow_t, borrow_mut_t, number_t, unit_t, box_t, print_t, arith_t, join_t, mutex_t, dup_t, lock_t, spawn_t, par_t, Items, none, item}
use Rattle.fr_terms.specs.Terms as terms
use Rattle.fr_typing.specs.Kinds.{Kind, copies, whole, gone, boxed}
use Rattle.fr_typing.specs.Places.{Env, Found, found, undefined, no_target, type_at, slot_of, read_blocked, write_blocked, is_own_path, put_at}
use Rattle.fr_typing.specs.Checks.{place_of}
use Rattle.fr_typing.specs.declared.reason.Reason.{Reason}
use Rattle.fr_typing.specs.declared.reason.Reason.TheVariants.{ReadBlocked, WriteBlocked, MovedThrough}
use Rattle.fr_typing.specs.Finding.{Outcome, typed, unless, with_slot, with_part, with_whole, env_after, is_moved}
use Rattle.fr_typing.specs.Rules.{read_rule}
use Rattle.fr_typing.specs.Captures.{Capturer, by_spawn, by_par, spot_of, env_left, env_new, env_left_by_all, env_of_all}
use Rattle.fr_typing.specs.Typing.{typing}
use Rattle.fr_syntax.specs.declared.tree.Term.{Term}
use Rattle.fr_syntax.specs.declared.tree.Term.TheVariants.{Block, Let, Assign, Read, Borrow, BorrowMut, Number, Unit, Box, Print, Join, Mutex, Dup, Lock, Arith, Spawn, Par}
use Rattle.fr_syntax.specs.declared.tree.Node.{Node}
use Rattle.fr_syntax.specs.Arena.{Arena, text_of}
use Rattle.fr_syntax.specs.Ordered.{IsArena}
use Rattle.fr_base.specs.Rooms.{WithRoom}
use Rattle.fr_syntax.specs.Meanings.{a_term, a_capture, Meaning, term_s, place_s, capture_s, sort_of, as_capture, captures_at, meanings, meaning_at, term_at, place_at, items_at, stands_for, all_need, needs, nodes_in, AreBelow, AllBelow}
use Rattle.fr_plain.specs.Run.{Capture as Passed, Run, unit_c, number, read, borrow, box_r, arith as arith_r, bind, print, assign, block, spawn, join_r, mutex_r, dup, lock, par, last, more}
use Rattle.fr_plain.specs.Resolve.{named, moves, captures, lets_in, lets, before, body_of, dropping, env_locked, resolve, resolve_items}
use Rattle.borrow_check.specs.declared.usage.Usage.{Usage}
use Rattle.fr_forms.specs.declared.forms.Captured as forms_captured
use Rattle.fr_forms.specs.declared.forms.Form.{Form}
use Rattle.fr_forms.specs.declared.forms.Form.TheVariants as form
use Rattle.fr_forms.specs.FormTerms.{parts_of, captures_of, body_run, build}
use Rattle.fr_forms.specs.declared.forms.Body.{Body}
use Rattle.borrow_check.specs.Usages.{is_taken, usage_of, read_usage, capture_usage, capture_usages, usages_of, usages_in, AreUsed}
use Rattle.borrow_check.specs.Capturing.{AreNames}
use Rattle.borrow_check.specs.Programs.{Program, usage_at, is_taking, takes_of}
use Rattle.borrow_check.specs.Programs as programs
use Rattle.fr_forms.specs.Forming.{count_at, count_all, place_in, captured_in, captured_all, drops_of, IsBlockOf, IsSpawnOf, IsBodyOf, IsParOf, IsMade}
use Rattle.fr_forms.specs.Resolved.{IsTypedIn, IsRun, AreRuns, AreCounts}
use Rattle.fr_syntax.proofs.TreeLemmas.{length_meanings}
use Rattle.borrow_check.proofs.TermLemmas.{IsHere}
use Rattle.borrow_check.proofs.CheckLemmas.{box_part, print_part, join_part, mutex_part, let_part, assign_part, arith_parts, spawn_parts}
use Rattle.borrow_check.proofs.LockLemmas.{lock_parts}
use Rattle.borrow_check.proofs.ParLemmas.{par_parts}
use Rattle.borrow_check.proofs.NodeLemmas.{nodes_below, nodes_few, at_most}
use Rattle.fr_forms.proofs.NodeLemmas.{name_alone, as_place_is, as_capture_is}
use Rattle.fr_forms.proofs.PartLemmas.{Row, a_number, a_unit, a_read, a_borrow, a_borrow_mut, an_arith, a_box, a_let, a_print, an_assign, a_block, a_join, a_spawn, a_mutex, a_dup, a_lock, a_par, term_is, nodes_are, row, items_long, names_long, long_below, box_typed, print_typed, let_typed, join_typed, mutex_typed, no_fault, spawn_typed, lock_typed, Branch, par_typed, assign_typed, lent_place, arith_typed, read_taken, AreTypedIn, block_typed, parted}

-- RUNNING TERMS

index_is : (us : List Usage) (n : ℕ) (u d : Usage) → slice_get us n ≡ Some u → slice_index_or us n d ≡ u
index_is [] n u d h = absurd cc
index_is (x ∷ us) zero u d h = let e : Some x ≡ Some u = h in cc
index_is (x ∷ us) (suc n) u d h = index_is us n u d h

-- the place of a node with this usage
place_named : (p : Program) (to : ℕ) (e : Env) (taken : Bool) → sort_of (meaning_at (meanings p.arena) to).what ≡ place_s → slice_get p.usages to ≡ Some (usage_of e (place_at (meanings p.arena) to) taken) → place_in p to ≡ named e (place_at (meanings p.arena) to)
place_named p to e taken sort h =
    let spot = place_at (meanings p.arena) to in
    let u = usage_of e spot taken in
    let d : Lval = record { slot = 0; depth = 0 } in
    let is = as_place_is (meaning_at (meanings p.arena) to).what sort in
    let used : usage_at p to ≡ u = index_is p.usages to u (record { slot = 0; takes = false }) h in
    ap (λ w. unwrap_or (programs.place_of w (usage_at p to)) d) is
    ∙ ap (λ (x : Usage). place_of spot x.slot) used

-- whether a typed read takes
takes_by : (b : Bool) (j k : Kind) (e e1 : Env) (at : ℕ) (r : Reason) (rest : Outcome) (c : Bool) → unless b at r rest ≡ typed k e1 → (rest ≡ typed k e1 → c ≡ is_taken rest) → c ≡ is_taken (unless b at r rest)
takes_by true j k e e1 at r rest c h go = absurd (no_fault at r k e1 h)
takes_by false j k e e1 at r rest c h go = go h

taken_by : (b : Bool) (e : Env) (w : Spot) (x : Lval) (j k : Kind) (e1 : Env) → b ≡ copies j →
    (if b then unless (read_blocked e x.slot) w.at ReadBlocked (typed j e)
    else unless (write_blocked e x.slot) w.at WriteBlocked (unless (not (is_own_path e x)) w.at MovedThrough (typed j (put_at e x (gone j))))) ≡ typed k e1 →
    not (copies j) ≡ is_taken (if b then unless (read_blocked e x.slot) w.at ReadBlocked (typed j e)
    else unless (write_blocked e x.slot) w.at WriteBlocked (unless (not (is_own_path e x)) w.at MovedThrough (typed j (put_at e x (gone j)))))
taken_by true e w x j k e1 is h = takes_by (read_blocked e x.slot) j k e e1 w.at ReadBlocked (typed j e) (not (copies j)) h (λ g. refl)
taken_by false e w x j k e1 is h =
    takes_by (write_blocked e x.slot) j k e e1 w.at WriteBlocked (unless (not (is_own_path e x)) w.at MovedThrough (typed j (put_at e x (gone j)))) (not (copies j)) h
    (λ g. takes_by (not (is_own_path e x)) j k e e1 w.at MovedThrough (typed j (put_at e x (gone j))) (not (copies j)) g (λ f. refl))

taken_part : (f : Found) (e : Env) (w : Spot) (x : Lval) (k : Kind) (e1 : Env) → with_part w.at f (λ q. with_whole w.at q (read_rule e w x)) ≡ typed k e1 → is_moved f ≡ is_taken (with_part w.at f (λ q. with_whole w.at q (read_rule e w x)))
taken_part (found (whole j)) e w x k e1 h = taken_by (copies j) e w x j k e1 refl h
taken_part (found (gone j)) e w x k e1 h = absurd (no_fault _ _ k e1 h)
taken_part (found (boxed q)) e w x k e1 h = absurd (no_fault _ _ k e1 h)
taken_part undefined e w x k e1 h = absurd (no_fault _ _ k e1 h)
taken_part no_target e w x k e1 h = absurd (no_fault _ _ k e1 h)

taken_slot : (o : Option ℕ) (e : Env) (w : Spot) (k : Kind) (e1 : Env) → with_slot w.at o (λ s. with_part w.at (type_at e (place_of w s)) (λ q. with_whole w.at q (read_rule e w (place_of w s)))) ≡ typed k e1 →
    is_moved (type_at e (place_of w (unwrap_or o 0))) ≡ is_taken (with_slot w.at o (λ s. with_part w.at (type_at e (place_of w s)) (λ q. with_whole w.at q (read_rule e w (place_of w s)))))
taken_slot None e w k e1 h = absurd (no_fault _ _ k e1 h)
taken_slot (Some s) e w k e1 h = taken_part (type_at e (place_of w s)) e w (place_of w s) k e1 h

-- a typed read takes where its type moves
read_moves : (w : Spot) (e : Env) (k : Kind) (e1 : Env) → typing (read_t 0 w) e ≡ typed k e1 → moves e w ≡ is_taken (typing (read_t 0 w) e)
read_moves w e k e1 h = taken_slot (slot_of e w.name) e w k e1 h

-- the slot of a captured name
abbrev capture_of : Env → Captured → Passed
capture_of e c = record { slot = (named e (spot_of c)).slot; take = moves e (spot_of c) }

abbrev as_run : forms_captured.Captured → Passed
as_run c = record { slot = c.slot; take = c.take }

capture_named : (p : Program) (i : ℕ) (e : Env) → sort_of (meaning_at (meanings p.arena) i).what ≡ capture_s → slice_get p.usages i ≡ Some (capture_usage e (as_capture (meaning_at (meanings p.arena) i).what)) → as_run (captured_in p i) ≡ capture_of e (as_capture (meaning_at (meanings p.arena) i).what)
capture_named p i e sort h =
    let what = (meaning_at (meanings p.arena) i).what in
    let c = as_capture what in
    let w = spot_of c in
    let u = capture_usage e c in
    let is : what ≡ a_capture c = as_capture_is what sort in
    let used : usage_at p i ≡ u = index_is p.usages i u (record { slot = 0; takes = false }) h in
    let d : Lval = record { slot = 0; depth = 0 } in
    let place : place_in p i ≡ lval u.slot = ap (λ x. unwrap_or (programs.place_of x (usage_at p i)) d) is ∙ ap (λ (x : Usage). lval x.slot) used in
    let slot : (place_in p i).slot ≡ (named e w).slot = ap (λ (x : Lval). x.slot) place in
    let take : takes_of p i ≡ moves e w =
    ap (λ x. is_taking x (usage_at p i)) is ∙ ap (λ (x : Usage). x.takes) used in
    ap₂ made slot take
  where
    lval : ℕ → Lval
    lval s = record { slot = s; depth = 0 }

    made : ℕ → Bool → Passed
    made s b = record { slot = s; take = b }

-- the captured slots are those of the names
captures_run : (by : Capturer) (p : Program) (ids : List ℕ) (e n : Env) → IsArena p.arena → AreNames p.arena ids → AreUsed p.usages (nodes_in (meanings p.arena) (all_need capture_s ids)) (capture_usages by e n (captures_at (meanings p.arena) ids)) →
    captures_of (captured_all p ids) ≡ captures by e n (captures_at (meanings p.arena) ids)
captures_run by p [] e n arena h used = refl
captures_run by p (i ∷ is) e n arena h used =
    let a = p.arena in
    let c = as_capture (meaning_at (meanings a) i).what in
    let cs = captures_at (meanings a) is in
    let alone = name_alone a i arena h.parts.0 h.parts.1 in
    let all : AreUsed p.usages (i ∷ nodes_in (meanings a) (all_need capture_s is)) (capture_usages by e n (c ∷ cs)) = subst (λ (l : List ℕ). AreUsed p.usages (l ++ nodes_in (meanings a) (all_need capture_s is)) (capture_usages by e n (c ∷ cs))) alone used in
    let rest = captures_run by p is (env_left by e n c) (env_new by e n c) arena (record { parts = h.parts.2 }) all.1 in
    ap₂ (λ (x : Passed) (xs : List Passed). x ∷ xs) (capture_named p i e h.parts.1 all.0) rest

-- items are those of their forms
items_run : (p : Program) (at : ℕ) (look : ℕ → Run) (ids : List ℕ) (e : Env) → IsArena p.arena → AreRuns p at look → AreTypedIn p at ids e → parts_of look ids ≡ resolve_items (items_at (meanings p.arena) ids) e
items_run p at look [] e arena runs w = refl
items_run p at look (i ∷ []) e arena runs w =
    let s = parted p at i [] e arena w in
    ap last (runs i w.ready.parts.0 e s.first)
items_run p at look (i ∷ j ∷ is) e arena runs w =
    let s = parted p at i (j ∷ is) e arena w in
    let t = term_at (meanings p.arena) i in
    let rest = items_run p at look (j ∷ is) (env_after (typing t e)) arena runs s.rest in
    ap₂ more (runs i w.ready.parts.0 e s.first) rest

-- HOW MANY VARIABLES

count_items : (p : Program) (counts : List ℕ) (at : ℕ) (ids : List ℕ) → AreCounts p counts → length counts ≡ at → AllBelow at ids → lets (items_at (meanings p.arena) ids) < 2 ^ 32 → count_all counts ids ≡ lets (items_at (meanings p.arena) ids)
count_items p counts at [] c same below few = refl
count_items p counts at (i ∷ is) c same below few =
    let lt : i < at = below.0 in
    omega (arith, few, c i (omega (arith, lt, same)), count_items p counts at is c same below.1 (omega (arith, few)))

mutual
  lets_few : (t : terms.Term) (e : Env) → lets_in t ≤ length (usages_of t e)
  lets_few (let_t at x t) e = omega (arith, lets_few t e, length-append (usages_of t e) (None ∷ []))
  lets_few (assign_t at w t) e = omega (arith, lets_few t e, length-append (usages_of t e) (None ∷ []))
  lets_few (box_t at t) e = omega (arith, lets_few t e, length-append (usages_of t e) (None ∷ []))
  lets_few (print_t at t) e = omega (arith, lets_few t e, length-append (usages_of t e) (None ∷ []))
  lets_few (block_t at ts) e = omega arith
  lets_few (read_t at w) e = omega arith
  lets_few (borrow_t at w) e = omega arith
  lets_few (borrow_mut_t at w) e = omega arith
  lets_few (number_t at n) e = omega arith
  lets_few (unit_t at) e = omega arith
  lets_few (arith_t at op l r) e =
      let e1 = env_after (typing l e) in
      omega (arith, lets_few l e, lets_few r e1, length-append (usages_of l e ++ usages_of r e1) (None ∷ []), length-append (usages_of l e) (usages_of r e1))
  lets_few (join_t at t) e = omega (arith, lets_few t e, length-append (usages_of t e) (None ∷ []))
  lets_few (mutex_t at t) e = omega (arith, lets_few t e, length-append (usages_of t e) (None ∷ []))
  lets_few (dup_t at w) e = omega arith
  lets_few (lock_t at w x t) e = omega arith
  lets_few (spawn_t at cs t) e = omega arith
  lets_few (par_t at cs t ds u) e = omega arith

  items_few : (ts : Items) (e : Env) → lets ts ≤ length (usages_in ts e)
  items_few none e = omega arith
  items_few (item t ts) e = omega (arith, lets_few t e, items_few ts (env_after (typing t e)), length-append (usages_of t e) (usages_in ts (env_after (typing t e))))

-- a block declares fewer variables than a 32-bit number tells
block_few : (p : Program) (at : ℕ) (items : WithRoom ℕ) (n : Node) (e : Env) → IsArena p.arena → IsHere p.arena at n → n.term ≡ Block items → IsTypedIn p at e → lets (items_at (meanings p.arena) items.items) < 2 ^ 32
block_few p at items n e arena h is w =
    let a = p.arena in
    let ns = (meaning_at (meanings a) at).nodes in
    let parts = nodes_in (meanings a) (all_need term_s items.items) in
    let nodes = ap length (nodes_are a at n (Block items) h is) in
    let most = at_most (at + 1) ns w.ready.own (nodes_below a arena (at + 1) at (omega arith) w.ready.here) in
    let s = block_typed p at items n e arena h is w in
    let long = items_long a at items.items e s.ready (long_below a arena at) in
    omega (arith, nodes, most, long, items_few (items_at (meanings a) items.items) e, length-append parts (at ∷ []), w.ready.here, length_meanings a, arena.few)

below_of : (a : Arena) (at : ℕ) (ids : List ℕ) → AreBelow (meanings a) at (all_need term_s ids) → AllBelow at ids
below_of a at [] h = tt
below_of a at (i ∷ is) h = (h.0, below_of a at is h.2)

-- items stand before their block
pub items_before : (ms : List Meaning) (at n : ℕ) (ids : List ℕ) (m : Term) (items : WithRoom ℕ) → AreBelow ms at (needs m) → m ≡ Block items → n ≡ at → ids ≡ items.items → AllBelow n ids
items_before ms at n ids m items h is same are = subst (λ l. AllBelow n l) (sym are) (subst (λ k. AllBelow k items.items) (sym same) (all items.items (subst (AreBelow ms at) (ap needs is) h)))
  where
    all : (ks : List ℕ) → AreBelow ms at (all_need term_s ks) → AllBelow at ks
    all [] g = tt
    all (k ∷ ks) g = (g.0, all ks g.2)

block_run : (p : Program) (at : ℕ) (counts : List ℕ) (look : ℕ → Run) (items : WithRoom ℕ) (n : Node) (e : Env) (f : Form) → IsArena p.arena → IsHere p.arena at n → n.term ≡ Block items → IsTypedIn p at e → AreCounts p counts → length counts ≡ at → AreRuns p at look →
    IsBlockOf counts items.items f → build look f ≡ block (lets (items_at (meanings p.arena) items.items)) (resolve_items (items_at (meanings p.arena) items.items) e)
block_run p at counts look items n e (form.Block is k) arena h at_n w c same runs made =
    let s = block_typed p at items n e arena h at_n w in
    let few = block_few p at items n e arena h at_n w in
    let count = count_items p counts at items.items c same (below_of p.arena at items.items s.ready.parts) few in
    let total : k ≡ lets (items_at (meanings p.arena) items.items) = made.1 (omega (arith, count, few)) ∙ count in
    ap₂ block total (ap (parts_of look) made.0 ∙ items_run p at look items.items e arena runs s)
block_run p at counts look items n e (form.Number v) arena h at_n w c same runs made = absurd made
block_run p at counts look items n e form.Unit arena h at_n w c same runs made = absurd made
block_run p at counts look items n e (form.Read x t) arena h at_n w c same runs made = absurd made
block_run p at counts look items n e (form.Borrow x is_mut) arena h at_n w c same runs made = absurd made
block_run p at counts look items n e (form.Arith op l r) arena h at_n w c same runs made = absurd made
block_run p at counts look items n e (form.Box v) arena h at_n w c same runs made = absurd made
block_run p at counts look items n e (form.Let v) arena h at_n w c same runs made = absurd made
block_run p at counts look items n e (form.Print v) arena h at_n w c same runs made = absurd made
block_run p at counts look items n e (form.Assign x v) arena h at_n w c same runs made = absurd made
block_run p at counts look items n e (form.Join v) arena h at_n w c same runs made = absurd made
block_run p at counts look items n e (form.Mutex v) arena h at_n w c same runs made = absurd made
block_run p at counts look items n e (form.Dup place) arena h at_n w c same runs made = absurd made
block_run p at counts look items n e (form.Lock place v k2) arena h at_n w c same runs made = absurd made
block_run p at counts look items n e (form.Par ours theirs) arena h at_n w c same runs made = absurd made
block_run p at counts look items n e (form.Spawn cs b d) arena h at_n w c same runs made = absurd made
block_run p at counts look items n e form.Place arena h at_n w c same runs made = absurd made

length_captures : (a : Arena) (ids : List ℕ) → length (captures_at (meanings a) ids) ≡ length ids
length_captures a [] = refl
length_captures a (i ∷ is) = ap suc (length_captures a is)

-- a new thread drops fewer slots than a 32-bit number tells
spawn_few : (p : Program) (at : ℕ) (names : WithRoom ℕ) (v : ℕ) (n : Node) (e : Env) → IsArena p.arena → IsHere p.arena at n → n.term ≡ Spawn names v → IsTypedIn p at e → length names.items + lets_in (term_at (meanings p.arena) v) < 2 ^ 32
spawn_few p at names v n e arena h is w =
    let a = p.arena in
    let parts = spawn_parts a at names v n h is w.ready in
    let few = nodes_few a at arena w.ready.here w.ready.own in
    let long = names_long a names.items arena parts.names in
    let body = long_below a arena at v parts.before parts.ready e in
    omega (arith, few, long, body, parts.count, lets_few (term_at (meanings a) v) e)

spawn_run : (p : Program) (at : ℕ) (counts : List ℕ) (look : ℕ → Run) (names : WithRoom ℕ) (v : ℕ) (n : Node) (e : Env) (f : Form) → IsArena p.arena → IsHere p.arena at n → n.term ≡ Spawn names v → IsTypedIn p at e → AreCounts p counts → length counts ≡ at → AreRuns p at look →
    IsSpawnOf (captured_all p names.items) v (drops_of counts names.items v) f → build look f ≡ resolve (spawn_t n.place (captures_at (meanings p.arena) names.items) (term_at (meanings p.arena) v)) e
spawn_run p at counts look names v n e (form.Spawn ds b k) arena h is w c same runs made =
    let a = p.arena in
    let t = term_at (meanings a) v in
    let cs = captures_at (meanings a) names.items in
    let parts = spawn_parts a at names v n h is w.ready in
    let s = spawn_typed p at names v n e arena h is w in
    let few = spawn_few p at names v n e arena h is w in
    let long = length_captures a names.items in
    let count = c v (omega (arith, parts.before, same)) in
    let total : k ≡ length cs + lets_in t = omega (arith, made.2, count, few, long) in
    let body : look b ≡ resolve t (env_of_all by_spawn e cs) =
    ap look made.1 ∙ runs v parts.before (env_of_all by_spawn e cs) s.body in
    let all : captures_of ds.items ≡ captures by_spawn e [] cs = ap captures_of made.0 ∙ captures_run by_spawn p names.items e [] arena parts.names s.names in
    ap₂ spawn all (ap₂ (λ x y. block x (last y)) total body)
spawn_run p at counts look names v n e (form.Number x) arena h is w c same runs made = absurd made
spawn_run p at counts look names v n e form.Unit arena h is w c same runs made = absurd made
spawn_run p at counts look names v n e (form.Read x t) arena h is w c same runs made = absurd made
spawn_run p at counts look names v n e (form.Borrow x is_mut) arena h is w c same runs made = absurd made
spawn_run p at counts look names v n e (form.Arith op l r) arena h is w c same runs made = absurd made
spawn_run p at counts look names v n e (form.Box x) arena h is w c same runs made = absurd made
spawn_run p at counts look names v n e (form.Let x) arena h is w c same runs made = absurd made
spawn_run p at counts look names v n e (form.Print x) arena h is w c same runs made = absurd made
spawn_run p at counts look names v n e (form.Assign x y) arena h is w c same runs made = absurd made
spawn_run p at counts look names v n e (form.Join x) arena h is w c same runs made = absurd made
spawn_run p at counts look names v n e (form.Mutex x) arena h is w c same runs made = absurd made
spawn_run p at counts look names v n e (form.Dup place) arena h is w c same runs made = absurd made
spawn_run p at counts look names v n e (form.Lock place x k2) arena h is w c same runs made = absurd made
spawn_run p at counts look names v n e (form.Par ours theirs) arena h is w c same runs made = absurd made
spawn_run p at counts look names v n e (form.Block items lets) arena h is w c same runs made = absurd made
spawn_run p at counts look names v n e form.Place arena h is w c same runs made = absurd made

-- a lock's body drops fewer slots than a 32-bit number tells
lock_few : (p : Program) (at of name v : ℕ) (n : Node) (e : Env) → IsArena p.arena → IsHere p.arena at n → n.term ≡ Lock of name v → IsTypedIn p at e → lets_in (term_at (meanings p.arena) v) < 2 ^ 32
lock_few p at of name v n e arena h is w =
    let a = p.arena in
    let parts = lock_parts a at of name v n h is w.ready in
    let few = nodes_few a at arena w.ready.here w.ready.own in
    let body = long_below a arena at v parts.before parts.ready e in
    omega (arith, few, body, parts.count, lets_few (term_at (meanings a) v) e)

-- a new thread of a pair is that of its names and its body
branch_run : (p : Program) (at : ℕ) (counts : List ℕ) (look : ℕ → Run) (ids : List ℕ) (v : ℕ) (e : Env) (b : Body) → IsArena p.arena → AreNames p.arena ids → v < at → AreCounts p counts → length counts ≡ at → AreRuns p at look → Branch p ids v e →
    length ids + lets_in (term_at (meanings p.arena) v) < 2 ^ 32 → IsBodyOf (captured_all p ids) v (drops_of counts ids v) b →
    (captures_of b.captures.items ≡ captures by_par e [] (captures_at (meanings p.arena) ids)) × (body_run look b ≡ body_of (captures_at (meanings p.arena) ids) (term_at (meanings p.arena) v) (resolve (term_at (meanings p.arena) v) (env_of_all by_par e (captures_at (meanings p.arena) ids))))
branch_run p at counts look ids v e b arena names before c same runs s few made =
    let a = p.arena in
    let t = term_at (meanings a) v in
    let cs = captures_at (meanings a) ids in
    let long = length_captures a ids in
    let count = c v (omega (arith, before, same)) in
    let total : b.drops ≡ length cs + lets_in t = omega (arith, made.drops_are, count, few, long) in
    let body : look b.term ≡ resolve t (env_of_all by_par e cs) = ap look made.term_is ∙ runs v before (env_of_all by_par e cs) s.body in
    (ap captures_of made.captures_are ∙ captures_run by_par p ids e [] arena names s.names, ap₂ (λ x y. block x (last y)) total body)

par_run : (p : Program) (at : ℕ) (counts : List ℕ) (look : ℕ → Run) (names : Boxed (WithRoom ℕ) Global) (v : ℕ) (others : Boxed (WithRoom ℕ) Global) (u : ℕ) (n : Node) (e : Env) (f : Form) → IsArena p.arena → IsHere p.arena at n → n.term ≡ Par names v others u → IsTypedIn p at e → AreCounts p counts → length counts ≡ at → AreRuns p at look →
    IsParOf (captured_all p names.value.items) v (drops_of counts names.value.items v) (captured_all p others.value.items) u (drops_of counts others.value.items u) f →
    build look f ≡ resolve (par_t n.place (captures_at (meanings p.arena) names.value.items) (term_at (meanings p.arena) v) (captures_at (meanings p.arena) others.value.items) (term_at (meanings p.arena) u)) e
par_run p at counts look names v others u n e (form.Par ours theirs) arena h is w c same runs made =
    let a = p.arena in
    let cs = captures_at (meanings a) names.value.items in
    let left = env_left_by_all by_par e cs in
    let parts = par_parts a at names v others u n h is w.ready in
    let s = par_typed p at names v others u n e arena h is w in
    let few = nodes_few a at arena w.ready.here w.ready.own in
    let first_long = names_long a names.value.items arena parts.first in
    let second_long = names_long a others.value.items arena parts.second in
    let ours_long = long_below a arena at v parts.ours_before parts.ours e in
    let theirs_long = long_below a arena at u parts.theirs_before parts.theirs e in
    let ours_few : length names.value.items + lets_in (term_at (meanings a) v) < 2 ^ 32 = omega (arith, few, first_long, ours_long, parts.count, lets_few (term_at (meanings a) v) e) in
    let theirs_few : length others.value.items + lets_in (term_at (meanings a) u) < 2 ^ 32 = omega (arith, few, second_long, theirs_long, parts.count, lets_few (term_at (meanings a) u) e) in
    let one = branch_run p at counts look names.value.items v e ours.value arena parts.first parts.ours_before c same runs s.ours ours_few made.0 in
    let two = branch_run p at counts look others.value.items u left theirs.value arena parts.second parts.theirs_before c same runs s.theirs theirs_few made.1 in
    ap₂ (λ xs r. par xs r (captures_of theirs.value.captures.items) (body_run look theirs.value)) one.0 one.1
    ∙ ap₂ (par (captures by_par e [] cs) (body_of cs (term_at (meanings a) v) (resolve (term_at (meanings a) v) (env_of_all by_par e cs)))) two.0 two.1
par_run p at counts look names v others u n e (form.Number x) arena h is w c same runs made = absurd made
par_run p at counts look names v others u n e form.Unit arena h is w c same runs made = absurd made
par_run p at counts look names v others u n e (form.Read x t) arena h is w c same runs made = absurd made
par_run p at counts look names v others u n e (form.Borrow x is_mut) arena h is w c same runs made = absurd made
par_run p at counts look names v others u n e (form.Arith op l r) arena h is w c same runs made = absurd made
par_run p at counts look names v others u n e (form.Box x) arena h is w c same runs made = absurd made
par_run p at counts look names v others u n e (form.Let x) arena h is w c same runs made = absurd made
par_run p at counts look names v others u n e (form.Print x) arena h is w c same runs made = absurd made
par_run p at counts look names v others u n e (form.Assign x y) arena h is w c same runs made = absurd made
par_run p at counts look names v others u n e (form.Join x) arena h is w c same runs made = absurd made
par_run p at counts look names v others u n e (form.Block items lets) arena h is w c same runs made = absurd made
par_run p at counts look names v others u n e (form.Spawn cs b d) arena h is w c same runs made = absurd made
par_run p at counts look names v others u n e (form.Mutex x) arena h is w c same runs made = absurd made
par_run p at counts look names v others u n e (form.Dup x) arena h is w c same runs made = absurd made
par_run p at counts look names v others u n e (form.Lock x b d) arena h is w c same runs made = absurd made
par_run p at counts look names v others u n e form.Place arena h is w c same runs made = absurd made

-- what a form's term is
pub made_is : (p : Program) (counts : List ℕ) (at : ℕ) (n : Node) (m : Term) (f : Form) → n.term ≡ m → IsMade p counts at n.term f → IsMade p counts at m f
made_is p counts at n m f is made = subst (λ x. IsMade p counts at x f) is made

resolved : (p : Program) (at : ℕ) (n : Node) (m : Term) (t : terms.Term) (e : Env) (r q : Run) → IsHere p.arena at n → n.term ≡ m → stands_for p.arena.names (meanings p.arena) n.place m ≡ a_term t → r ≡ q → resolve t e ≡ q → r ≡ resolve (term_at (meanings p.arena) at) e
resolved p at n m t e r q h is stands left right = left ∙ sym right ∙ sym (ap (λ x. resolve x e) (term_is p.arena at n m t h is stands))

run_row : (p : Program) (at : ℕ) (counts : List ℕ) (look : ℕ → Run) (n : Node) (e : Env) (f : Form) → IsArena p.arena → IsHere p.arena at n → IsTypedIn p at e → AreCounts p counts → length counts ≡ at → AreRuns p at look → IsMade p counts at n.term f → Row n → build look f ≡ resolve (term_at (meanings p.arena) at) e
run_row p at counts look n e f arena h w c same runs made (a_number v is) =
    resolved p at n (Number v) (number_t n.place v) e (build look f) (number v) h is refl (ap (build look) (made_is p counts at n (Number v) f is made)) refl
run_row p at counts look n e f arena h w c same runs made (a_unit is) =
    resolved p at n Unit (unit_t n.place) e (build look f) unit_c h is refl (ap (build look) (made_is p counts at n Unit f is made)) refl
run_row p at counts look n e f arena h w c same runs made (a_read from is) =
    let a = p.arena in
    let spot = place_at (meanings a) from in
    let parts = subst (AreBelow (meanings a) at) (ap needs is) h.parts in
    let u = read_taken p at from n e arena h is w in
    let place = place_named p from e (is_taken (typing (read_t 0 spot) e)) parts.1 u.place in
    let term = term_is a at n (Read from) (read_t n.place spot) h is refl in
    let what : (meaning_at (meanings a) at).what ≡ a_term (read_t n.place spot) = h.what ∙ ap (stands_for a.names (meanings a) n.place) is in
    let used : usage_at p at ≡ read_usage spot e = index_is p.usages at (read_usage spot e) (record { slot = 0; takes = false }) u.read in
    let takes : takes_of p at ≡ moves e spot =
    ap (λ x. is_taking x (usage_at p at)) what ∙ ap (λ (x : Usage). x.takes) used
    ∙ sym (read_moves spot e w.kind w.after (sym (ap (λ x. typing x e) term) ∙ w.typed)) in
    resolved p at n (Read from) (read_t n.place spot) e (build look f) (read (named e spot) (moves e spot)) h is refl
    (ap (build look) (made_is p counts at n (Read from) f is made) ∙ ap₂ read place takes) refl
run_row p at counts look n e f arena h w c same runs made (a_borrow of is) =
    let spot = place_at (meanings p.arena) of in
    let parts = subst (AreBelow (meanings p.arena) at) (ap needs is) h.parts in
    let used = lent_place p at of n (Borrow of) (borrow_t n.place spot) e arena h is refl refl refl w in
    resolved p at n (Borrow of) (borrow_t n.place spot) e (build look f) (borrow (named e spot) false) h is refl
    (ap (build look) (made_is p counts at n (Borrow of) f is made) ∙ ap (λ z. borrow z false) (place_named p of e false parts.1 used)) refl
run_row p at counts look n e f arena h w c same runs made (a_borrow_mut of is) =
    let spot = place_at (meanings p.arena) of in
    let parts = subst (AreBelow (meanings p.arena) at) (ap needs is) h.parts in
    let used = lent_place p at of n (BorrowMut of) (borrow_mut_t n.place spot) e arena h is refl refl refl w in
    resolved p at n (BorrowMut of) (borrow_mut_t n.place spot) e (build look f) (borrow (named e spot) true) h is refl
    (ap (build look) (made_is p counts at n (BorrowMut of) f is made) ∙ ap (λ z. borrow z true) (place_named p of e false parts.1 used)) refl
run_row p at counts look n e f arena h w c same runs made (an_arith op left right is) =
    let t = term_at (meanings p.arena) left in
    let u = term_at (meanings p.arena) right in
    let pair = arith_parts p.arena at left right op n h is w.ready in
    let o = arith_typed p at left right op n e arena h is w in
    resolved p at n (Arith op left right) (arith_t n.place op t u) e (build look f) (arith_r op (resolve t e) (resolve u (env_after (typing t e)))) h is refl
    (ap (build look) (made_is p counts at n (Arith op left right) f is made) ∙ ap₂ (arith_r op) (runs left pair.left_before e o.first) (runs right pair.right_before (env_after (typing t e)) o.second)) refl
run_row p at counts look n e f arena h w c same runs made (a_box v is) =
    let t = term_at (meanings p.arena) v in
    let part = box_part p.arena at v n h is w.ready in
    resolved p at n (Box v) (box_t n.place t) e (build look f) (box_r (resolve t e)) h is refl
    (ap (build look) (made_is p counts at n (Box v) f is made) ∙ ap box_r (runs v part.before e (box_typed p at v n e arena h is w))) refl
run_row p at counts look n e f arena h w c same runs made (a_print v is) =
    let t = term_at (meanings p.arena) v in
    let part = print_part p.arena at v n h is w.ready in
    resolved p at n (Print v) (print_t n.place t) e (build look f) (print (resolve t e)) h is refl
    (ap (build look) (made_is p counts at n (Print v) f is made) ∙ ap print (runs v part.before e (print_typed p at v n e arena h is w))) refl
run_row p at counts look n e f arena h w c same runs made (a_let name v is) =
    let t = term_at (meanings p.arena) v in
    let part = let_part p.arena at name v n h is w.ready in
    resolved p at n (Let name v) (let_t n.place (text_of p.arena.names name) t) e (build look f) (bind (resolve t e)) h is refl
    (ap (build look) (made_is p counts at n (Let name v) f is made) ∙ ap bind (runs v part.before e (let_typed p at name v n e arena h is w))) refl
run_row p at counts look n e f arena h w c same runs made (an_assign to v is) =
    let a = p.arena in
    let t = term_at (meanings a) v in
    let spot = place_at (meanings a) to in
    let part = assign_part a at to v n h is w.ready in
    let parts = subst (AreBelow (meanings a) at) (ap needs is) h.parts in
    let g = assign_typed p at to v n e arena h is w in
    let place = place_named p to (env_after (typing t e)) false parts.1 g.place in
    resolved p at n (Assign to v) (assign_t n.place spot t) e (build look f) (assign (named (env_after (typing t e)) spot) (resolve t e)) h is refl
    (ap (build look) (made_is p counts at n (Assign to v) f is made) ∙ ap₂ assign place (runs v part.before e g.value)) refl
run_row p at counts look n e f arena h w c same runs made (a_block items is) =
    let ts = items_at (meanings p.arena) items.items in
    resolved p at n (Block items) (block_t n.place ts) e (build look f) (block (lets ts) (resolve_items ts e)) h is refl
    (block_run p at counts look items n e f arena h is w c same runs (made_is p counts at n (Block items) f is made)) refl
run_row p at counts look n e f arena h w c same runs made (a_join v is) =
    let t = term_at (meanings p.arena) v in
    let part = join_part p.arena at v n h is w.ready in
    resolved p at n (Join v) (join_t n.place t) e (build look f) (join_r (resolve t e)) h is refl
    (ap (build look) (made_is p counts at n (Join v) f is made) ∙ ap join_r (runs v part.before e (join_typed p at v n e arena h is w))) refl
run_row p at counts look n e f arena h w c same runs made (a_spawn names v is) =
    let t = spawn_t n.place (captures_at (meanings p.arena) names.items) (term_at (meanings p.arena) v) in
    resolved p at n (Spawn names v) t e (build look f) (resolve t e) h is refl
    (spawn_run p at counts look names v n e f arena h is w c same runs (made_is p counts at n (Spawn names v) f is made)) refl
run_row p at counts look n e f arena h w c same runs made (a_mutex v is) =
    let t = term_at (meanings p.arena) v in
    let part = mutex_part p.arena at v n h is w.ready in
    resolved p at n (Mutex v) (mutex_t n.place t) e (build look f) (mutex_r (resolve t e)) h is refl
    (ap (build look) (made_is p counts at n (Mutex v) f is made) ∙ ap mutex_r (runs v part.before e (mutex_typed p at v n e arena h is w))) refl
run_row p at counts look n e f arena h w c same runs made (a_dup of is) =
    let spot = place_at (meanings p.arena) of in
    let parts = subst (AreBelow (meanings p.arena) at) (ap needs is) h.parts in
    let used = lent_place p at of n (Dup of) (dup_t n.place spot) e arena h is refl refl refl w in
    resolved p at n (Dup of) (dup_t n.place spot) e (build look f) (dup (named e spot)) h is refl
    (ap (build look) (made_is p counts at n (Dup of) f is made) ∙ ap dup (place_named p of e false parts.1 used)) refl
run_row p at counts look n e f arena h w c same runs made (a_lock of name v is) =
    let a = p.arena in
    let t = term_at (meanings a) v in
    let spot = place_at (meanings a) of in
    let x = text_of a.names name in
    let parts = lock_parts a at of name v n h is w.ready in
    let g = lock_typed p at of name v n e arena h is w in
    let place = place_named p of e false parts.place_sort g.place in
    let few = lock_few p at of name v n e arena h is w in
    let count = c v (omega (arith, parts.before, same)) in
    let total : count_at counts v ≡ lets_in t = omega (arith, count, few) in
    let body = runs v parts.before (env_locked e spot x) g.body in
    resolved p at n (Lock of name v) (lock_t n.place spot x t) e (build look f) (lock (named e spot) (dropping (lets_in t) (resolve t (env_locked e spot x)))) h is refl
    (ap (build look) (made_is p counts at n (Lock of name v) f is made) ∙ ap₂ lock place (ap₂ dropping total body)) refl
run_row p at counts look n e f arena h w c same runs made (a_par names v others u is) =
    let t = par_t n.place (captures_at (meanings p.arena) names.value.items) (term_at (meanings p.arena) v) (captures_at (meanings p.arena) others.value.items) (term_at (meanings p.arena) u) in
    resolved p at n (Par names v others u) t e (build look f) (resolve t e) h is refl
    (par_run p at counts look names v others u n e f arena h is w c same runs (made_is p counts at n (Par names v others u) f is made)) refl

-- the form of a node has the node's running term, where those before have theirs
pub made_runs : (p : Program) (at : ℕ) (counts : List ℕ) (look : ℕ → Run) (n : Node) (f : Form) → IsArena p.arena → IsHere p.arena at n → AreCounts p counts → length counts ≡ at → AreRuns p at look → IsMade p counts at n.term f → IsRun p at (build look f)
made_runs p at counts look n f arena h c same runs made = λ e w. run_row p at counts look n e f arena h w c same runs made (row p.arena at n h w.ready)
