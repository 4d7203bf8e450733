-- Forms that are made one after another, and the one of the tree's term.
use Rattle.std.proofs.Common.{◌≡◌, ℕ, zero, suc, ◌+◌, ◌-◌, ◌*◌, ◌<◌, ◌≤◌, true, false, List, [], ◌∷◌, ◌++◌, length, refl, sym, ap, ◌∙◌, subst, arith, length-append}
use Rattle.std.specs.Prelude.{max, if◌then◌else◌}
use Rattle.fr_terms.specs.Terms.{block_t, let_t, assign_t, read_t, borrow_t, borrow_mut_t, number_t, unit_t, box_t, print_t, arith_t, join_t, mutex_t, dup_t, lock_t, spawn_t, par_t, Items, none, item}
use Rattle.fr_terms.specs.Terms as terms
use Rattle.fr_terms.specs.Limits.{levels, levels_of, IsWithinLimits}
use Rattle.fr_typing.specs.Finding.{env_after}
use Rattle.fr_typing.specs.Typing.{typing}
use Rattle.fr_typing.specs.Captures.{by_spawn, by_par, env_left_by_all, env_of_all}
use Rattle.fr_typing.specs.Places.{Env}
use Rattle.fr_typing.proofs.Agree.{exactly_one_lem}
use Rattle.fr_syntax.specs.declared.tree.Term.{Term}
use Rattle.fr_syntax.specs.declared.tree.Term.TheVariants.{Block, Let, Assign, Read, Dup, Borrow, BorrowMut, Number, Unit, Box, Print, Join, Mutex, Arith, Spawn, Par, Lock, Place, Capture}
use Rattle.fr_syntax.specs.declared.tree.Node.{Node}
use Rattle.fr_syntax.specs.Arena.{Arena, text_of}
use Rattle.fr_syntax.specs.Ordered.{IsArena}
use Rattle.fr_syntax.specs.Meanings.{a_term, as_term, captures_at, meanings, term_at, term_of, place_at, items_at, stands_for, needs, root_of, AreBelow}
use Rattle.fr_syntax.proofs.TreeLemmas.{length_meanings}
use Rattle.fr_plain.specs.Run.{Run, Parts}
use Rattle.fr_plain.specs.Resolve.{lets_in, before, dropping, env_locked, resolve, resolve_items, program}
use Rattle.fr_forms.specs.declared.forms.Captured.{Captured}
use Rattle.fr_forms.specs.declared.forms.Form.{Form}
use Rattle.fr_forms.specs.declared.forms.Form.TheVariants as form
use Rattle.fr_forms.specs.Depths.{depth, depth_in}
use Rattle.fr_forms.specs.FormTerms as forms
use Rattle.fr_forms.specs.FormTerms.{build, run_at, NamesBelow, AreStacked, AreInOrder}
use Rattle.fr_acts.specs.SlotOrder.{onto, newest_first}
use Rattle.borrow_check.specs.Programs.{Program, takes_of, IsChecked}
use Rattle.fr_forms.specs.Forming.{place_in, captured_all, drops_of, clipped, count_at, count_of, IsBlockOf, IsSpawnOf, IsParOf, IsMade}
use Rattle.fr_forms.specs.Resolved.{IsTypedIn, IsRun, AreCounts, IsBuilt}
use Rattle.fr_typing.proofs.PlaceLemmas.{eq_cases}
use Rattle.fr_acts.proofs.SlotLemmas.{length_onto}
use Rattle.fr_forms.proofs.FormLemmas.{push_same}
use Rattle.borrow_check.proofs.TermLemmas.{IsHere}
use Rattle.fr_forms.proofs.PartLemmas.{term_is}
use Rattle.fr_forms.proofs.ResolveLemmas.{made_is, made_runs}

-- ONE FORM MORE

onto_push : (es fs : List Form) (f : Form) → onto es (fs ++ f ∷ []) ≡ f ∷ onto es fs
onto_push es [] f = refl
onto_push es (g ∷ fs) f = onto_push (g ∷ es) fs f

newest_push : (fs : List Form) (f : Form) → newest_first (fs ++ f ∷ []) ≡ f ∷ newest_first fs
newest_push fs f = onto_push [] fs f

length_newest : (fs : List Form) → length (newest_first fs) ≡ length fs
length_newest fs = omega (arith, length_onto [] fs)

term_pushed : (fs : List Form) (f : Form) → forms.term_of (fs ++ f ∷ []) (length fs) ≡ build (forms.term_of fs) f
term_pushed fs f =
    ap (λ l. run_at l (length fs)) (newest_push fs f)
    ∙ eq_cases (λ b. (if b then build (run_at (newest_first fs)) f else run_at (newest_first fs) (length fs)) ≡ build (run_at (newest_first fs)) f) (length fs) (length (newest_first fs)) (λ same. refl) (λ ne. absurd (ne (sym (length_newest fs))))

term_kept : (fs : List Form) (f : Form) (i : ℕ) → i < length fs → forms.term_of fs i ≡ forms.term_of (fs ++ f ∷ []) i
term_kept fs f i lt =
    push_same f (newest_first fs) i (omega (arith, lt, length_newest fs)) ∙ ap (λ l. run_at l i) (sym (newest_push fs f))

order_pushed : (fs : List Form) (f : Form) → AreInOrder fs → NamesBelow (length fs) f → AreInOrder (fs ++ f ∷ [])
order_pushed fs f h below = subst AreStacked (sym (newest_push fs f)) (subst (λ n. NamesBelow n f) (sym (length_newest fs)) below, h)

-- COUNTS

count_kept : (cs : List ℕ) (c i : ℕ) → i < length cs → count_at (cs ++ c ∷ []) i ≡ count_at cs i
count_kept [] c i lt = absurd (omega arith)
count_kept (x ∷ cs) c zero lt = refl
count_kept (x ∷ cs) c (suc i) lt = count_kept cs c i (omega arith)

count_pushed : (cs : List ℕ) (c : ℕ) → count_at (cs ++ c ∷ []) (length cs) ≡ c
count_pushed [] c = refl
count_pushed (x ∷ cs) c = count_pushed cs c

-- a form with no variable of its own, of a term with none
none_counted : (p : Program) (cs : List ℕ) (at : ℕ) (n : Node) (m : Term) (t : terms.Term) (f g : Form) → IsHere p.arena at n → n.term ≡ m → stands_for p.arena.names (meanings p.arena) n.place m ≡ a_term t → f ≡ g → count_of cs g ≡ 0 → lets_in t ≡ 0 → count_of cs f ≡ clipped (lets_in (term_at (meanings p.arena) at))
none_counted p cs at n m t f g h is stands made zero_f zero_t =
    let e = ap lets_in (term_is p.arena at n m t h is stands) in
    omega (arith, ap (count_of cs) made, zero_f, zero_t, e)

block_counted : (cs items : List ℕ) (f : Form) → IsBlockOf cs items f → count_of cs f ≡ 0
block_counted cs items (form.Block is k) h = refl
block_counted cs items (form.Number n) h = absurd h
block_counted cs items form.Unit h = absurd h
block_counted cs items (form.Read w t) h = absurd h
block_counted cs items (form.Borrow w is_mut) h = absurd h
block_counted cs items (form.Arith op l r) h = absurd h
block_counted cs items (form.Box v) h = absurd h
block_counted cs items (form.Let v) h = absurd h
block_counted cs items (form.Print v) h = absurd h
block_counted cs items (form.Assign w v) h = absurd h
block_counted cs items (form.Join v) h = absurd h
block_counted cs items (form.Mutex v) h = absurd h
block_counted cs items (form.Dup place) h = absurd h
block_counted cs items (form.Lock place v k2) h = absurd h
block_counted cs items (form.Par ours theirs) h = absurd h
block_counted cs items (form.Spawn ds b k) h = absurd h
block_counted cs items form.Place h = absurd h

spawn_counted : (cs : List ℕ) (ds : List Captured) (b k : ℕ) (f : Form) → IsSpawnOf ds b k f → count_of cs f ≡ 0
spawn_counted cs ds b k (form.Spawn es v d) h = refl
spawn_counted cs ds b k (form.Number n) h = absurd h
spawn_counted cs ds b k form.Unit h = absurd h
spawn_counted cs ds b k (form.Read w t) h = absurd h
spawn_counted cs ds b k (form.Borrow w is_mut) h = absurd h
spawn_counted cs ds b k (form.Arith op l r) h = absurd h
spawn_counted cs ds b k (form.Box v) h = absurd h
spawn_counted cs ds b k (form.Let v) h = absurd h
spawn_counted cs ds b k (form.Print v) h = absurd h
spawn_counted cs ds b k (form.Assign w v) h = absurd h
spawn_counted cs ds b k (form.Join v) h = absurd h
spawn_counted cs ds b k (form.Mutex v) h = absurd h
spawn_counted cs ds b k (form.Dup place) h = absurd h
spawn_counted cs ds b k (form.Lock place v k2) h = absurd h
spawn_counted cs ds b k (form.Par ours theirs) h = absurd h
spawn_counted cs ds b k (form.Block is lets) h = absurd h
spawn_counted cs ds b k form.Place h = absurd h

par_counted : (counts : List ℕ) (cs : List Captured) (v k : ℕ) (ds : List Captured) (w l : ℕ) (f : Form) → IsParOf cs v k ds w l f → count_of counts f ≡ 0
par_counted counts cs v k ds w l (form.Par ours theirs) h = refl
par_counted counts cs v k ds w l (form.Number n) h = absurd h
par_counted counts cs v k ds w l form.Unit h = absurd h
par_counted counts cs v k ds w l (form.Read x t) h = absurd h
par_counted counts cs v k ds w l (form.Borrow x is_mut) h = absurd h
par_counted counts cs v k ds w l (form.Arith op a b) h = absurd h
par_counted counts cs v k ds w l (form.Box x) h = absurd h
par_counted counts cs v k ds w l (form.Let x) h = absurd h
par_counted counts cs v k ds w l (form.Print x) h = absurd h
par_counted counts cs v k ds w l (form.Assign x y) h = absurd h
par_counted counts cs v k ds w l (form.Join x) h = absurd h
par_counted counts cs v k ds w l (form.Block is lets) h = absurd h
par_counted counts cs v k ds w l (form.Spawn es b d) h = absurd h
par_counted counts cs v k ds w l (form.Mutex x) h = absurd h
par_counted counts cs v k ds w l (form.Dup x) h = absurd h
par_counted counts cs v k ds w l (form.Lock x b d) h = absurd h
par_counted counts cs v k ds w l form.Place h = absurd h

-- a form with one part, of a term that declares as many variables as its part
one_counted : (p : Program) (cs : List ℕ) (at v : ℕ) (n : Node) (m : Term) (t : terms.Term) (f g : Form) → IsHere p.arena at n → AreCounts p cs → length cs ≡ at → n.term ≡ m → stands_for p.arena.names (meanings p.arena) n.place m ≡ a_term t → f ≡ g → count_of cs g ≡ count_at cs v → lets_in t ≡ lets_in (term_at (meanings p.arena) v) → v < at → count_of cs f ≡ clipped (lets_in (term_at (meanings p.arena) at))
one_counted p cs at v n m t f g h c same is stands made one lets lt =
    let e = ap lets_in (term_is p.arena at n m t h is stands) in
    omega (arith, ap (count_of cs) made, one, c v (omega (arith, lt, same)), e, lets)

-- a form declares as many variables as its node's term, as far as a 32-bit number tells
made_counted : (p : Program) (cs : List ℕ) (at : ℕ) (n : Node) (f : Form) → IsHere p.arena at n → AreCounts p cs → length cs ≡ at → IsMade p cs at n.term f → (m : Term) → n.term ≡ m → count_of cs f ≡ clipped (lets_in (term_at (meanings p.arena) at))
made_counted p cs at n f h c same made (Number v) is = none_counted p cs at n (Number v) (number_t n.place v) f (form.Number v) h is refl (made_is p cs at n (Number v) f is made) refl refl
made_counted p cs at n f h c same made Unit is = none_counted p cs at n Unit (unit_t n.place) f form.Unit h is refl (made_is p cs at n Unit f is made) refl refl
made_counted p cs at n f h c same made (Read from) is = none_counted p cs at n (Read from) (read_t n.place (place_at (meanings p.arena) from)) f (form.Read (place_in p from) (takes_of p at)) h is refl (made_is p cs at n (Read from) f is made) refl refl
made_counted p cs at n f h c same made (Borrow of) is = none_counted p cs at n (Borrow of) (borrow_t n.place (place_at (meanings p.arena) of)) f (form.Borrow (place_in p of) false) h is refl (made_is p cs at n (Borrow of) f is made) refl refl
made_counted p cs at n f h c same made (BorrowMut of) is = none_counted p cs at n (BorrowMut of) (borrow_mut_t n.place (place_at (meanings p.arena) of)) f (form.Borrow (place_in p of) true) h is refl (made_is p cs at n (BorrowMut of) f is made) refl refl
made_counted p cs at n f h c same made (Box v) is =
    let t = box_t n.place (term_at (meanings p.arena) v) in
    one_counted p cs at v n (Box v) t f (form.Box v) h c same is refl (made_is p cs at n (Box v) f is made) refl refl (subst (AreBelow (meanings p.arena) at) (ap needs is) h.parts).0
made_counted p cs at n f h c same made (Print v) is =
    let t = print_t n.place (term_at (meanings p.arena) v) in
    one_counted p cs at v n (Print v) t f (form.Print v) h c same is refl (made_is p cs at n (Print v) f is made) refl refl (subst (AreBelow (meanings p.arena) at) (ap needs is) h.parts).0
made_counted p cs at n f h c same made (Join v) is =
    let t = join_t n.place (term_at (meanings p.arena) v) in
    one_counted p cs at v n (Join v) t f (form.Join v) h c same is refl (made_is p cs at n (Join v) f is made) refl refl (subst (AreBelow (meanings p.arena) at) (ap needs is) h.parts).0
made_counted p cs at n f h c same made (Assign to v) is =
    let t = assign_t n.place (place_at (meanings p.arena) to) (term_at (meanings p.arena) v) in
    one_counted p cs at v n (Assign to v) t f (form.Assign (place_in p to) v) h c same is refl (made_is p cs at n (Assign to v) f is made) refl refl (subst (AreBelow (meanings p.arena) at) (ap needs is) h.parts).2.0
made_counted p cs at n f h c same made (Let name v) is =
    let t = let_t n.place (text_of p.arena.names name) (term_at (meanings p.arena) v) in
    let lt : v < at = (subst (AreBelow (meanings p.arena) at) (ap needs is) h.parts).0 in
    let e = ap lets_in (term_is p.arena at n (Let name v) t h is refl) in
    omega (arith, ap (count_of cs) (made_is p cs at n (Let name v) f is made), c v (omega (arith, lt, same)), e)
made_counted p cs at n f h c same made (Arith op left right) is =
    let t = arith_t n.place op (term_at (meanings p.arena) left) (term_at (meanings p.arena) right) in
    let below = subst (AreBelow (meanings p.arena) at) (ap needs is) h.parts in
    let first : left < at = below.0 in
    let second : right < at = below.2.0 in
    let e = ap lets_in (term_is p.arena at n (Arith op left right) t h is refl) in
    omega (arith, ap (count_of cs) (made_is p cs at n (Arith op left right) f is made), c left (omega (arith, first, same)), c right (omega (arith, second, same)), e)
made_counted p cs at n f h c same made (Block items) is =
    let e = ap lets_in (term_is p.arena at n (Block items) (block_t n.place (items_at (meanings p.arena) items.items)) h is refl) in
    omega (arith, block_counted cs items.items f (made_is p cs at n (Block items) f is made), e)
made_counted p cs at n f h c same made (Dup of) is = none_counted p cs at n (Dup of) (dup_t n.place (place_at (meanings p.arena) of)) f (form.Dup (place_in p of)) h is refl (made_is p cs at n (Dup of) f is made) refl refl
made_counted p cs at n f h c same made (Mutex v) is =
    let t = mutex_t n.place (term_at (meanings p.arena) v) in
    one_counted p cs at v n (Mutex v) t f (form.Mutex v) h c same is refl (made_is p cs at n (Mutex v) f is made) refl refl (subst (AreBelow (meanings p.arena) at) (ap needs is) h.parts).0
made_counted p cs at n f h c same made (Spawn names body) is =
    let e = ap lets_in (term_is p.arena at n (Spawn names body) (spawn_t n.place (captures_at (meanings p.arena) names.items) (term_at (meanings p.arena) body)) h is refl) in
    omega (arith, spawn_counted cs (captured_all p names.items) body (drops_of cs names.items body) f (made_is p cs at n (Spawn names body) f is made), e)
made_counted p cs at n f h c same made (Par names body others other) is =
    let e = ap lets_in (term_is p.arena at n (Par names body others other) (par_t n.place (captures_at (meanings p.arena) names.value.items) (term_at (meanings p.arena) body) (captures_at (meanings p.arena) others.value.items) (term_at (meanings p.arena) other)) h is refl) in
    omega (
      arith,
      par_counted cs (captured_all p names.value.items) body (drops_of cs names.value.items body) (captured_all p others.value.items) other (drops_of cs others.value.items other) f (made_is p cs at n (Par names body others other) f is made),
      e,
    )
made_counted p cs at n f h c same made (Lock of name body) is =
    none_counted p cs at n (Lock of name body) (lock_t n.place (place_at (meanings p.arena) of) (text_of p.arena.names name) (term_at (meanings p.arena) body)) f (form.Lock (place_in p of) body (count_at cs body)) h is refl
    (made_is p cs at n (Lock of name body) f is made) refl refl
made_counted p cs at n f h c same made (Place name stars) is =
    let e = ap (λ w. lets_in (as_term w)) (h.what ∙ ap (stands_for p.arena.names (meanings p.arena) n.place) is) in
    omega (arith, ap (count_of cs) (made_is p cs at n (Place name stars) f is made), e)
made_counted p cs at n f h c same made (Capture name) is =
    let e = ap (λ w. lets_in (as_term w)) (h.what ∙ ap (stands_for p.arena.names (meanings p.arena) n.place) is) in
    omega (arith, ap (count_of cs) (made_is p cs at n (Capture name) f is made), e)

counts_pushed : (p : Program) (cs : List ℕ) (c : ℕ) → AreCounts p cs → c ≡ clipped (lets_in (term_at (meanings p.arena) (length cs))) → AreCounts p (cs ++ c ∷ [])
counts_pushed p cs c h is = λ i lt.
    eq_cases (λ b. count_at (cs ++ c ∷ []) i ≡ clipped (lets_in (term_at (meanings p.arena) i))) i (length cs)
    (λ same. ap (count_at (cs ++ c ∷ [])) same ∙ count_pushed cs c ∙ is ∙ ap (λ k. clipped (lets_in (term_at (meanings p.arena) k))) (sym same))
    (λ ne. let here : i < length cs = omega (arith, lt, ne, length-append cs (c ∷ [])) in count_kept cs c i here ∙ h i here)

-- BUILT

pub nothing_built : (p : Program) → IsBuilt p [] []
nothing_built p = record {
  order = tt;
  runs = λ i lt. absurd (omega (arith, lt));
  same = refl;
  counted = λ i lt. absurd (omega (arith, lt));
}

-- the next node's form
pub built_push : (p : Program) (fs : List Form) (cs : List ℕ) (n : Node) (f : Form) (c : ℕ) → IsArena p.arena → IsHere p.arena (length fs) n → IsBuilt p fs cs → IsMade p cs (length fs) n.term f → NamesBelow (length fs) f → c ≡ count_of cs f → IsBuilt p (fs ++ f ∷ []) (cs ++ c ∷ [])
built_push p fs cs n f c arena h b made below count =
    let at = length fs in
    let run : IsRun p at (forms.term_of (fs ++ f ∷ []) at) = subst (IsRun p at) (sym (term_pushed fs f)) (made_runs p at cs (forms.term_of fs) n f arena h b.counted b.same b.runs made) in
    let counted = made_counted p cs at n f h b.counted b.same made n.term refl in
    record {
      order = order_pushed fs f b.order below;
      runs = λ i lt.
          eq_cases (λ x. IsRun p i (forms.term_of (fs ++ f ∷ []) i)) i at
          (λ same. subst (λ k. IsRun p k (forms.term_of (fs ++ f ∷ []) k)) (sym same) run)
          (λ ne. let here : i < at = omega (arith, lt, ne, length-append fs (f ∷ [])) in subst (IsRun p i) (term_kept fs f i here) (b.runs i here));
      same = omega (arith, b.same, length-append fs (f ∷ []), length-append cs (c ∷ []));
      counted = counts_pushed p cs c b.counted (count ∙ counted ∙ ap (λ k. clipped (lets_in (term_at (meanings p.arena) k))) (sym b.same));
    }

-- the same as the code has it
pub built_next : (p : Program) (a : Arena) (fs gs : List Form) (cs ds l k : List ℕ) (at : ℕ) (n : Node) (f : Form) (c : ℕ) → IsArena p.arena → a ≡ p.arena → IsHere a at n → IsBuilt p fs cs → length fs ≡ at → l ≡ cs → IsMade p l at n.term f → NamesBelow at f → k ≡ cs → c ≡ count_of k f → gs ≡ fs ++ f ∷ [] → ds ≡ cs ++ c ∷ [] → IsBuilt p gs ds × (length gs ≡ at + 1)
built_next p a fs gs cs ds l k at n f c arena same h b long counts made below counts2 count pushed pushed2 =
    let here = subst (λ x. IsHere x (length fs) n) same (subst (λ i. IsHere a i n) (sym long) h) in
    let made2 = subst (λ x. IsMade p x (length fs) n.term f) counts (subst (λ i. IsMade p l i n.term f) (sym long) made) in
    let next = built_push p fs cs n f c arena here b made2 (subst (λ i. NamesBelow i f) (sym long) below) (count ∙ ap (λ x. count_of x f) counts2) in
    (subst (λ (x : List Form). IsBuilt p x ds) (sym pushed) (subst (λ x. IsBuilt p (fs ++ f ∷ []) x) (sym pushed2) next), omega (arith, ap length pushed, length-append fs (f ∷ []), long))

-- THE TREE'S TERM

root_typed : (p : Program) → IsChecked p → IsTypedIn p (root_of p.arena) []
root_typed p h = record {
  ready = record {
    here = omega (arith, h.checkable.tree.some, length_meanings p.arena);
    sort = h.checkable.tree.sort;
    own = h.checkable.tree.own;
  };
  kind = h.typed.kind;
  after = h.typed.after;
  typed = (exactly_one_lem.types (term_of p.arena) [] h.typed.kind h.typed.after).0 h.typed.types;
  used = h.used;
}

-- the last form's term is the program
pub root_built : (p : Program) (fs : List Form) (cs : List ℕ) → IsChecked p → IsBuilt p fs cs → length fs ≡ length (meanings p.arena) → forms.root_of fs ≡ program (term_of p.arena)
root_built p fs cs h b all =
    let long = length_meanings p.arena in
    let at : length fs - 1 ≡ root_of p.arena = omega (arith, all, long) in
    let lt : root_of p.arena < length fs = omega (arith, all, long, h.checkable.tree.some) in
    ap (forms.term_of fs) at ∙ b.runs (root_of p.arena) lt [] (root_typed p h)

-- HOW DEEP

before_few : (ts : Items) (r : Run) (rest : Parts) (n m : ℕ) → depth r ≤ n → depth_in rest ≤ m → depth_in (before ts r rest) ≤ max n m
before_few none r rest n m le k = omega (arith, le)
before_few (item t ts) r rest n m le k = omega (arith, le, k)

dropping_few : (k : ℕ) (r : Run) → depth (dropping k r) ≤ depth r + 1
dropping_few zero r = omega arith
dropping_few (suc k) r = omega arith

-- a lock's body that declares variables outside of its blocks stands in a block that the source doesn't have
mutual
  depth_few : (t : terms.Term) (e : Env) → depth (resolve t e) ≤ 2 * levels t
  depth_few (block_t at ts) e = omega (arith, items_few ts e)
  depth_few (let_t at x t) e = omega (arith, depth_few t e)
  depth_few (assign_t at w t) e = omega (arith, depth_few t e)
  depth_few (box_t at t) e = omega (arith, depth_few t e)
  depth_few (print_t at t) e = omega (arith, depth_few t e)
  depth_few (read_t at w) e = omega arith
  depth_few (borrow_t at w) e = omega arith
  depth_few (borrow_mut_t at w) e = omega arith
  depth_few (number_t at n) e = omega arith
  depth_few (unit_t at) e = omega arith
  depth_few (arith_t at op l r) e = omega (arith, depth_few l e, depth_few r (env_after (typing l e)))
  depth_few (join_t at t) e = omega (arith, depth_few t e)
  depth_few (spawn_t at cs t) e = omega (arith, depth_few t (env_of_all by_spawn e cs))
  depth_few (mutex_t at t) e = omega (arith, depth_few t e)
  depth_few (dup_t at w) e = omega arith
  depth_few (lock_t at w x t) e = omega (arith, depth_few t (env_locked e w x), dropping_few (lets_in t) (resolve t (env_locked e w x)))
  depth_few (par_t at cs t ds u) e =
      omega (arith, depth_few t (env_of_all by_par e cs), depth_few u (env_of_all by_par (env_left_by_all by_par e cs) ds))

  items_few : (ts : Items) (e : Env) → depth_in (resolve_items ts e) ≤ 2 * levels_of ts
  items_few none e = omega arith
  items_few (item t ts) e = let both = before_few ts (resolve t e) (resolve_items ts (env_after (typing t e))) (2 * levels t) (2 * levels_of ts) (depth_few t e) (items_few ts (env_after (typing t e))) in omega (arith, both)

-- a program within the limits fits in 128 frames
program_depth : (t : terms.Term) → IsWithinLimits t → depth (program t) ≤ 128
program_depth t h = omega (arith, depth_few t [], h.depth)

pub root_depth : (fs : List Form) (t : terms.Term) → IsWithinLimits t → forms.root_of fs ≡ program t → depth (forms.root_of fs) ≤ 128
root_depth fs t h e = omega (arith, ap depth e, program_depth t h)
