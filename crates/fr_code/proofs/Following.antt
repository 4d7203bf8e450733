-- The code's next move is the term's.
use Rattle.std.proofs.Common.{◌≡◌, ◌≢◌, ℕ, zero, suc, ◌+◌, Bool, true, false, List, [], ◌∷◌, Option, Some, None, refl, sym, ap, ◌∙◌, subst}
use Rattle.std.specs.Prelude.{⊤, slice_get}
use Rattle.fr_sound.specs.Below.fr_base.declared.place.Lval.{Lval}
use Rattle.fr_sound.specs.Below.fr_base.declared.place.Op.{Op}
use Rattle.fr_sound.specs.Below.fr_base.declared.instruction.Operand.{Operand}
use Rattle.fr_sound.specs.Below.fr_base.declared.instruction.Operand.TheVariants as operand
use Rattle.fr_sound.specs.Below.fr_base.declared.instruction.Instr.{Instr}
use Rattle.fr_sound.specs.Below.fr_base.declared.instruction.Instr.TheVariants as instr
use Rattle.fr_sound.specs.Below.fr_plain.declared.value.Value.{Value}
use Rattle.fr_sound.specs.Below.fr_plain.MachineActs.{Act, carry, do_let, do_read, do_borrow, do_assign, do_box, do_arith, do_print, do_discard, do_drop, do_spawn, do_join, do_mutex, do_dup, do_lock, do_unlock, do_par, do_par_end}
use Rattle.fr_sound.specs.Below.fr_plain.Run.{Capture, Run, temp, unit_c, number, read, borrow, box_r, arith, bind, print, assign, block, spawn, join_r, mutex_r, dup, lock, locked, par, par_end, Parts, last, more, Now, going, constant, temporary, by_now, on_value, after, now, now_parts, Move, next, alone, block_end, move, move_parts}
use Rattle.fr_sound.specs.Below.fr_plain.Alike.{same_act, same_start, same_starts}
use Rattle.fr_code.specs.Steps.{Place, captured, CodeMove, with_operand, went, quiet, loud, run_instr, code_move}
use Rattle.fr_code.specs.StandsFor.{operand_of, operand_of_last, temps_in, temps_in_parts, IsSource, AreSource, LaterParts, Discards, DropsAt, At, AtParts, IsCodeFrom}
use Rattle.fr_code.specs.Laws.{SameAct}
use Rattle.fr_code.proofs.Finished.{source_temps, sources_temps, later, later_parts, is_later, done_later, OperandNow, operand_now, operand_last_now, Finished, finished, finished_parts, anywhere, parts_anywhere, done_stands}
use Rattle.fr_code.proofs.Settling.{starts_stand}

-- WHAT A MOVE LEADS TO

-- a running term of a code state, between p and q and above the temporary values ts
pub record StandsIn (code : List Instr) (q : ℕ) (ts : List Value) (o : Operand) (p : ℕ) (us : List Value) (r : Run) : Type 0 where
  pub at : At code p r q
  pub temps : us ≡ temps_in r ts
  pub operand : operand_of r ≡ o

-- the same for the items of a block
pub record PartsIn (code : List Instr) (q : ℕ) (ts : List Value) (o : Operand) (p : ℕ) (us : List Value) (is : Parts) : Type 0 where
  pub at : AtParts code p is q
  pub temps : us ≡ temps_in_parts is ts
  pub operand : operand_of_last is ≡ o

module _ {P : Type 0} (code : List Instr) (Fits : ℕ → List Value → P → Type 0) where
  -- the same act, and what the move leads to fits
  pub record Match (m : Move P) (c : CodeMove) : Type 0 where
    pub act : SameAct code m.act c.act
    pub fits : (v : Value) → Fits (c.plug v).pc (c.plug v).temps (m.plug v)

  abbrev pub Same : Option (Move P) → Option CodeMove → Type 0
  Same None None = ⊤
  Same None (Some c) = ⊥
  Same (Some m) None = ⊥
  Same (Some m) (Some c) = Match m c

module _ (code : List Instr) where
  -- THE INSTRUCTION

  pub fetch : (i : Instr) (m p : ℕ) (us : List Value) → slice_get code m ≡ Some i → m ≡ p → code_move code p us ≡ run_instr (Some i) p us
  fetch i m p us h e = ap (λ o. run_instr o p us) (ap (slice_get code) (sym e) ∙ h)

  module _ {P : Type 0} (Fits : ℕ → List Value → P → Type 0) where
    -- an act at the front
    pub acts : (a : Act ⊥) (f : Value → P) (at : Value → ℕ) (ts : Value → List Value) (x : Option CodeMove) → x ≡ went at ts (carry a) → ((v : Value) → Fits (at v) (ts v) (f v)) → Same code Fits (alone f (carry a)) x
    acts a f at ts x e fits = subst (Same code Fits (alone f (carry a))) (sym e) (record { act = same_act a; fits = fits })

    -- a move inside
    pub under : {Q : Type 0} (Inner : ℕ → List Value → Q → Type 0) (f : Q → P) (a : Option (Move Q)) (b : Option CodeMove) → ((p : ℕ) (us : List Value) (x : Q) → Inner p us x → Fits p us (f x)) → Same code Inner a b → Same code Fits (next f a) b
    under Inner f None None g h = tt
    under Inner f None (Some c) g h = absurd h
    under Inner f (Some n) None g h = absurd h
    under Inner f (Some n) (Some c) g h = record { act = h.act; fits = λ v. g (c.plug v).pc (c.plug v).temps (n.plug v) (h.fits v) }

  abbrev pub Takes : Operand → List Value → List Value → Value → Type 0
  Takes o us ts v = (go : Value → List Value → Option CodeMove) → with_operand o us go ≡ go v ts

  takes_constant : (o : Operand) (us ts : List Value) (v : Value) (p q : ℕ) → OperandNow code (constant v) o → Finished code (constant v) us ts p q → Takes o us ts v
  takes_constant o us ts v p q e f = λ go. e.0 us go ∙ ap (go v) f.0

  takes_temporary : (o : Operand) (us ts : List Value) (v : Value) (p q : ℕ) → OperandNow code (temporary v) o → Finished code (temporary v) us ts p q → Takes o us ts v
  takes_temporary o us ts v p q e f = λ go. ap (λ o. with_operand o us go) e ∙ ap (λ x. with_operand operand.Pop x go) f.0

  -- a step inside the part that is evaluated, or the step on its value
  pub one : {P : Type 0} (Fits : ℕ → List Value → P → Type 0) (n : Now) (o : Operand) (us ts : List Value) (p m : ℕ) (go : Value → Option (Move P)) (inside : Option (Move P)) (x : Option CodeMove)
      → OperandNow code n o → Finished code n us ts p m → (n ≡ going → Same code Fits inside x) → ((v : Value) → n ≢ going → Takes o us ts v → m ≡ p → Same code Fits (go v) x)
      → Same code Fits (on_value n go inside) x
  one Fits going o us ts p m go inside x e f i v = i refl
  one Fits (constant w) o us ts p m go inside x e f i v = v w (λ h. cc) (takes_constant o us ts w p m e f) f.1
  one Fits (temporary w) o us ts p m go inside x e f i v = v w (λ h. cc) (takes_temporary o us ts w p m e f) f.1

  -- EACH FORM

  abbrev pub Follows : Run → Type 0
  Follows r = (p q : ℕ) (ts : List Value) → now r ≡ going → At code p r q → Same code (StandsIn code q ts (operand_of r)) (move r) (code_move code p (temps_in r ts))

  abbrev pub FollowsParts : Parts → Type 0
  FollowsParts is = (p q : ℕ) (ts : List Value) → now_parts is ≡ going → AtParts code p is q → Same code (PartsIn code q ts (operand_of_last is)) (move_parts is) (code_move code p (temps_in_parts is ts))

  -- the shape of all terms with one part and one operand
  unary : (F : Run → Run) (I : Operand → Instr) (out : Operand) (a : Value → Act ⊥) (T : Value → Run) (k : Value → List Value → List Value) (r : Run) (p q m : ℕ) (ts : List Value)
      → ((x : Run) (l : ℕ) → At code l x m → slice_get code m ≡ Some (I (operand_of x)) → StandsIn code q ts out l (temps_in x ts) (F x))
      → ((v : Value) (l : ℕ) → q ≡ l → StandsIn code q ts out l (k v ts) (T v))
      → ((o : Operand) (us : List Value) → run_instr (Some (I o)) p us ≡ with_operand o us (λ v vs. went (λ x. p + 1) (λ x. k x vs) (carry (a v))))
      → (now r ≡ going → Same code (StandsIn code m ts (operand_of r)) (move r) (code_move code p (temps_in r ts))) → At code p r m → slice_get code m ≡ Some (I (operand_of r)) → q ≡ m + 1
      → Same code (StandsIn code q ts out) (on_value (now r) (λ v. alone T (carry (a v))) (next F (move r))) (code_move code p (temps_in r ts))
  unary F I out a T k r p q m ts form value runs ih at i len =
      let Fits = StandsIn code q ts out in
      let us = temps_in r ts in
      let x = code_move code p us in
      one Fits (now r) (operand_of r) us ts p m (λ v. alone T (carry (a v))) (next F (move r)) x (operand_now code r) (finished code r p m ts at)
      (λ e. under Fits (StandsIn code m ts (operand_of r)) F (move r) x (λ l vs y f. subst (λ z. Fits l z (F y)) (sym f.temps) (form y l f.at (i ∙ ap (λ o. Some (I o)) (sym f.operand)))) (ih e))
      (λ v ne take e. acts Fits (a v) T (λ w. p + 1) (λ w. k w ts) x (fetch (I (operand_of r)) m p us i e ∙ runs (operand_of r) us ∙ take (λ w vs. went (λ y. p + 1) (λ y. k y vs) (carry (a w))))
      (λ w. value w (p + 1) (len ∙ ap (λ n. n + 1) e)))

  box_follows : (r : Run) → Follows r → Follows (box_r r)
  box_follows r ih p q ts g h =
      unary box_r instr.Box operand.Pop do_box temp (λ v us. v ∷ us) r p q h.0 ts (λ x l a i. record { at = (h.0, a, i, h.3); temps = refl; operand = refl }) (λ v l e. record { at = e; temps = refl; operand = refl }) (λ o us. refl) (λ e. ih p h.0 ts e h.1) h.1 h.2 h.3

  bind_follows : (r : Run) → Follows r → Follows (bind r)
  bind_follows r ih p q ts g h =
      unary bind instr.Let operand.Unit do_let (λ x. unit_c) (λ v us. us) r p q h.0 ts (λ x l a i. record { at = (h.0, a, i, h.3); temps = refl; operand = refl }) (λ v l e. record { at = e; temps = refl; operand = refl }) (λ o us. refl) (λ e. ih p h.0 ts e h.1) h.1 h.2 h.3

  print_follows : (r : Run) → Follows r → Follows (print r)
  print_follows r ih p q ts g h =
      unary print instr.Print operand.Unit do_print (λ x. unit_c) (λ v us. us) r p q h.0 ts (λ x l a i. record { at = (h.0, a, i, h.3); temps = refl; operand = refl }) (λ v l e. record { at = e; temps = refl; operand = refl }) (λ o us. refl) (λ e. ih p h.0 ts e h.1) h.1 h.2 h.3

  assign_follows : (w : Lval) (r : Run) → Follows r → Follows (assign w r)
  assign_follows w r ih p q ts g h =
      unary (assign w) (instr.Assign w) operand.Unit (do_assign w) (λ x. unit_c) (λ v us. us) r p q h.0 ts (λ x l a i. record { at = (h.0, a, i, h.3); temps = refl; operand = refl }) (λ v l e. record { at = e; temps = refl; operand = refl }) (λ o us. refl) (λ e. ih p h.0 ts e h.1) h.1 h.2 h.3

  join_follows : (r : Run) → Follows r → Follows (join_r r)
  join_follows r ih p q ts g h =
      unary join_r instr.Join operand.Pop do_join temp (λ v us. v ∷ us) r p q h.0 ts (λ x l a i. record { at = (h.0, a, i, h.3); temps = refl; operand = refl }) (λ v l e. record { at = e; temps = refl; operand = refl }) (λ o us. refl) (λ e. ih p h.0 ts e h.1) h.1 h.2 h.3

  mutex_follows : (r : Run) → Follows r → Follows (mutex_r r)
  mutex_follows r ih p q ts g h =
      unary mutex_r instr.Mutex operand.Pop do_mutex temp (λ v us. v ∷ us) r p q h.0 ts (λ x l a i. record { at = (h.0, a, i, h.3); temps = refl; operand = refl }) (λ v l e. record { at = e; temps = refl; operand = refl }) (λ o us. refl) (λ e. ih p h.0 ts e h.1) h.1 h.2 h.3

  dup_follows : (w : Lval) → Follows (dup w)
  dup_follows w p q ts g h =
      acts (StandsIn code q ts operand.Pop) (do_dup w) temp (λ v. p + 1) (λ v. v ∷ ts) (code_move code p ts) (fetch (instr.Dup w) p p ts h.0 refl) (λ v. record { at = h.1; temps = refl; operand = refl })

  -- the body follows the lock
  lock_follows : (w : Lval) (r : Run) → Follows (lock w r)
  lock_follows w r p q ts g h =
      acts (StandsIn code q ts (operand_of r)) (do_lock w) (λ v. locked r) (λ v. p + 1) (λ v. ts) (code_move code p ts) (fetch (instr.Lock w) p p ts h.1 refl)
      (λ v. record { at = (h.0, h.2, h.3); temps = sym (source_temps r ts h.4); operand = refl })

  -- a step of the body, or the unlock where that is done
  locked_follows : (r : Run) → Follows r → Follows (locked r)
  locked_follows r ih p q ts g h =
      let Fits = StandsIn code q ts (operand_of r) in
      let us = temps_in r ts in
      let x = code_move code p us in
      one Fits (now r) (operand_of r) us ts p h.0 (λ v. alone (λ y. r) do_unlock) (next locked (move r)) x (operand_now code r) (finished code r p h.0 ts h.1)
      (λ e. under Fits (StandsIn code h.0 ts (operand_of r)) locked (move r) x (λ l vs y f. record { at = (h.0, f.at, h.2); temps = f.temps; operand = f.operand }) (ih p h.0 ts e h.1))
      (λ v ne take e. acts Fits do_unlock (λ y. r) (λ y. p + 1) (λ y. us) x (fetch instr.Unlock h.0 p us h.2.0 e)
      (λ y. record { at = subst (λ z. At code (p + 1) r z) (sym (h.2.1 ∙ ap (λ z. z + 1) e)) (done_stands code (now r) (λ z. At code z r z) ne (anywhere code r) (p + 1)); temps = refl; operand = refl }))

  read_follows : (w : Lval) (take : Bool) → Follows (read w take)
  read_follows w take p q ts g h =
      acts (StandsIn code q ts operand.Pop) (do_read w take) temp (λ v. p + 1) (λ v. v ∷ ts) (code_move code p ts) (fetch (instr.Read w take) p p ts h.0 refl) (λ v. record { at = h.1; temps = refl; operand = refl })

  borrow_follows : (w : Lval) (is_mut : Bool) → Follows (borrow w is_mut)
  borrow_follows w true p q ts g h =
      acts (StandsIn code q ts operand.Pop) (do_borrow w true) temp (λ v. p + 1) (λ v. v ∷ ts) (code_move code p ts) (fetch (instr.BorrowMut w) p p ts h.0 refl) (λ v. record { at = h.1; temps = refl; operand = refl })
  borrow_follows w false p q ts g h =
      acts (StandsIn code q ts operand.Pop) (do_borrow w false) temp (λ v. p + 1) (λ v. v ∷ ts) (code_move code p ts) (fetch (instr.Borrow w) p p ts h.0 refl) (λ v. record { at = h.1; temps = refl; operand = refl })

  -- the right side is evaluated, or both sides are done
  arith_right : (f : Op) (a b : Run) → Follows b → (p m n q : ℕ) (ts : List Value) (v : Value) → now a ≢ going → Takes (operand_of a) (temps_in a ts) ts v → m ≡ p → At code p b n → slice_get code n ≡ Some (instr.Arith f (operand_of a) (operand_of b)) → q ≡ n + 1
      → Same code (StandsIn code q ts operand.Pop) (on_value (now b) (λ w. alone temp (do_arith f v w)) (next (arith f a) (move b))) (code_move code p (temps_in b (temps_in a ts)))
  arith_right f a b ih p m n q ts v ne take em at i len =
      let Fits = StandsIn code q ts operand.Pop in
      let us = temps_in b (temps_in a ts) in
      let x = code_move code p us in
      one Fits (now b) (operand_of b) us (temps_in a ts) p n (λ w. alone temp (do_arith f v w)) (next (arith f a) (move b)) x (operand_now code b) (finished code b p n (temps_in a ts) at)
      (λ e. under Fits (StandsIn code n (temps_in a ts) (operand_of b)) (arith f a) (move b) x
      (λ l vs y g. record { at = (l, n, done_stands code (now a) (λ z. At code z a z) ne (anywhere code a) l, g.at, i ∙ ap (λ o. Some (instr.Arith f (operand_of a) o)) (sym g.operand), len, done_later (now a) (IsSource y) ne); temps = g.temps; operand = refl })
      (ih p n (temps_in a ts) e at))
      (λ w ne2 take2 e. acts Fits (do_arith f v w) temp (λ y. p + 1) (λ y. y ∷ ts) x
      (fetch (instr.Arith f (operand_of a) (operand_of b)) n p us i e ∙ take2 (λ w us. with_operand (operand_of a) us (λ v vs. loud (p + 1) vs (do_arith f v w))) ∙ take (λ v vs. loud (p + 1) vs (do_arith f v w)))
      (λ y. record { at = len ∙ ap (λ z. z + 1) e; temps = refl; operand = refl }))

  arith_follows : (f : Op) (a b : Run) → Follows a → Follows b → Follows (arith f a b)
  arith_follows f a b iha ihb p q ts g h =
      let Fits = StandsIn code q ts operand.Pop in
      let m = h.0 in
      let n = h.1 in
      let x = code_move code p (temps_in b (temps_in a ts)) in
      one Fits (now a) (operand_of a) (temps_in a ts) ts p m (λ v. on_value (now b) (λ w. alone temp (do_arith f v w)) (next (arith f a) (move b))) (next (λ y. arith f y b) (move a)) x (operand_now code a) (finished code a p m ts h.2)
      (λ e.
      let src = is_later (now a) (IsSource b) e h.6 in
      under Fits (StandsIn code m ts (operand_of a)) (λ y. arith f y b) (move a) x
      (λ l vs y g. record { at = (m, n, g.at, h.3, h.4 ∙ ap (λ o. Some (instr.Arith f o (operand_of b))) (sym g.operand), h.5, later (now y) (IsSource b) src); temps = g.temps ∙ sym (source_temps b (temps_in y ts) src); operand = refl })
      (subst (λ us. Same code (StandsIn code m ts (operand_of a)) (move a) (code_move code p us)) (sym (source_temps b (temps_in a ts) src)) (iha p m ts e h.2)))
      (λ v ne take e. arith_right f a b ihb p m n q ts v ne take e (subst (λ z. At code z b n) e h.3) h.4 h.5)

  end_follows : (k : ℕ) (is : Parts) (p q : ℕ) (ts us : List Value) → now (block k is) ≡ going → now_parts is ≢ going → us ≡ temps_in_parts is ts → DropsAt code p k q
      → Same code (StandsIn code q ts (operand_of_last is)) (block_end k is) (code_move code p us)
  end_follows zero is p q ts us g ne e d = absurd (ne g)
  end_follows (suc k) is p q ts us g ne e d =
      acts (StandsIn code q ts (operand_of_last is)) do_drop (λ v. block k is) (λ v. p + 1) (λ v. us) (code_move code p us) (fetch instr.DropSlot p p us d.0 refl)
      (λ v. record { at = (p + 1, done_stands code (now_parts is) (λ z. AtParts code z is z) ne (parts_anywhere code is) (p + 1), d.1); temps = e; operand = refl })

  block_follows : (k : ℕ) (is : Parts) → FollowsParts is → Follows (block k is)
  block_follows k is ih p q ts g h =
      let Fits = StandsIn code q ts (operand_of_last is) in
      let us = temps_in_parts is ts in
      let x = code_move code p us in
      one Fits (now_parts is) (operand_of_last is) us ts p h.0 (λ v. block_end k is) (next (block k) (move_parts is)) x (operand_last_now code is) (finished_parts code is p h.0 ts h.1)
      (λ e. under Fits (PartsIn code h.0 ts (operand_of_last is)) (block k) (move_parts is) x (λ l vs y f. record { at = (h.0, f.at, h.2); temps = f.temps; operand = f.operand }) (ih p h.0 ts e h.1))
      (λ v ne take e. end_follows k is p q ts us g ne refl (subst (λ z. DropsAt code z k q) e h.2))

  -- the new thread's code stands where the instruction says
  spawn_follows : (cs : List Capture) (r : Run) → Follows (spawn cs r)
  spawn_follows cs r p q ts g h =
      let from : IsCodeFrom code h.1 r = record { to = h.2; at = h.6; over = h.7; source = h.8 } in
      let act : SameAct code (do_spawn cs r) (do_spawn (captured h.0.items) (record { pc = h.1; temps = [] })) = subst (λ xs. SameAct code (do_spawn cs r) (do_spawn xs (record { pc = h.1; temps = [] }))) (sym h.4) (same_start (starts_stand code h.1 r from)) in
      subst (Same code (StandsIn code q ts operand.Pop) (move (spawn cs r))) (sym (fetch (instr.Spawn h.0 h.1) p p ts h.3 refl))
      (record { act = act; fits = λ v. record { at = h.5; temps = refl; operand = refl } })

  -- the codes of both threads stand where the instruction says, and the wait for both follows
  par_follows : (cs : List Capture) (a : Run) (ds : List Capture) (b : Run) → Follows (par cs a ds b)
  par_follows cs a ds b p q ts g h =
      let to = h.0 in
      let other = h.2 in
      let k = h.4 in
      let first : IsCodeFrom code to a = record { to = h.1; at = h.5; over = h.6; source = h.7 } in
      let second : IsCodeFrom code other b = record { to = h.3; at = h.8; over = h.9; source = h.10 } in
      let both : SameAct code (do_par cs a ds b) (do_par cs (started to) ds (started other)) = same_starts (starts_stand code to a first) (starts_stand code other b second) in
      let ours : SameAct code (do_par cs a ds b) (do_par (captured k.ours.items) (started to) ds (started other)) = subst (λ xs. SameAct code (do_par cs a ds b) (do_par xs (started to) ds (started other))) (sym k.captures) both in
      let act : SameAct code (do_par cs a ds b) (do_par (captured k.ours.items) (started to) (captured k.theirs.items) (started other)) =
      subst (λ xs. SameAct code (do_par cs a ds b) (do_par (captured k.ours.items) (started to) xs (started other))) (sym k.others) ours in
      subst (Same code (StandsIn code q ts operand.Unit) (move (par cs a ds b))) (sym (fetch (instr.Par k.ours to k.theirs other) p p ts k.starts refl))
      (record { act = act; fits = λ v. record { at = (k.waits, k.next); temps = refl; operand = refl } })
    where
      started : ℕ → Place
      started n = record { pc = n; temps = [] }

  par_end_follows : Follows par_end
  par_end_follows p q ts g h = acts (StandsIn code q ts operand.Unit) do_par_end (λ v. unit_c) (λ v. p + 1) (λ v. ts) (code_move code p ts) (fetch instr.ParEnd p p ts h.0 refl) (λ v. record { at = h.1; temps = refl; operand = refl })

  more_by : (n : Now) (r : Run) (is : Parts) → Follows r → FollowsParts is → (p q : ℕ) (ts : List Value) → now r ≡ n → after n (now_parts is) ≡ going → OperandNow code n (operand_of r) → (h : AtParts code p (more r is) q) → Finished code n (temps_in r ts) ts p h.0
      → Same code (PartsIn code q ts (operand_of_last is)) (by_now n (next (λ x. more x is) (move r)) (λ v. move_parts is) (λ v. alone (λ x. is) (do_discard v))) (code_move code p (temps_in_parts is (temps_in r ts)))
  more_by going r is ih ihs p q ts g g2 en h f =
      let Fits = PartsIn code q ts (operand_of_last is) in
      let src : AreSource is = subst (λ n. LaterParts n (AreSource is)) g h.5 in
      under Fits (StandsIn code h.0 ts (operand_of r)) (λ x. more x is) (move r) (code_move code p (temps_in_parts is (temps_in r ts)))
      (λ l vs y f. record { at = (h.0, h.1, f.at, subst (λ o. Discards code o h.0 h.1) (sym f.operand) h.3, h.4, later_parts (now y) (AreSource is) src); temps = f.temps ∙ sym (sources_temps is (temps_in y ts) src); operand = refl })
      (subst (λ us. Same code (StandsIn code h.0 ts (operand_of r)) (move r) (code_move code p us)) (sym (sources_temps is (temps_in r ts) src)) (ih p h.0 ts g h.2))
  more_by (constant v) r is ih ihs p q ts g g2 en h f =
      let at : h.1 ≡ p = en.1 h.0 h.1 h.3 ∙ f.1 in
      subst (λ us. Same code (PartsIn code q ts (operand_of_last is)) (move_parts is) (code_move code p (temps_in_parts is us))) (sym f.0) (ihs p q ts g2 (subst (λ z. AtParts code z is q) at h.4))
  more_by (temporary v) r is ih ihs p q ts g g2 en h f =
      let Fits = PartsIn code q ts (operand_of_last is) in
      let src : AreSource is = subst (λ n. LaterParts n (AreSource is)) g h.5 in
      let d : Discards code operand.Pop h.0 h.1 = subst (λ o. Discards code o h.0 h.1) en h.3 in
      let us = temps_in_parts is (temps_in r ts) in
      let n : h.1 ≡ p + 1 = d.1 ∙ ap (λ z. z + 1) f.1 in
      acts Fits (do_discard v) (λ x. is) (λ x. p + 1) (λ x. ts) (code_move code p us)
      (fetch instr.Discard h.0 p us d.0 f.1 ∙ ap (λ z. with_operand operand.Pop z (λ v us. quiet (p + 1) us (do_discard v))) (sources_temps is (temps_in r ts) src ∙ f.0))
      (λ x. record { at = subst (λ z. AtParts code z is q) n h.4; temps = sym (sources_temps is ts src); operand = refl })

  mutual
    pub follows : (r : Run) → Follows r
    follows (temp v) = λ p q ts g h. absurd cc
    follows unit_c = λ p q ts g h. absurd cc
    follows (number n) = λ p q ts g h. absurd cc
    follows (read w take) = read_follows w take
    follows (borrow w is_mut) = borrow_follows w is_mut
    follows (box_r r) = box_follows r (follows r)
    follows (arith f a b) = arith_follows f a b (follows a) (follows b)
    follows (bind r) = bind_follows r (follows r)
    follows (print r) = print_follows r (follows r)
    follows (assign w r) = assign_follows w r (follows r)
    follows (block k is) = block_follows k is (follows_parts is)
    follows (spawn cs r) = spawn_follows cs r
    follows (join_r r) = join_follows r (follows r)
    follows (mutex_r r) = mutex_follows r (follows r)
    follows (dup w) = dup_follows w
    follows (lock w r) = lock_follows w r
    follows (locked r) = locked_follows r (follows r)
    follows (par cs a ds b) = par_follows cs a ds b
    follows par_end = par_end_follows

    pub follows_parts : (is : Parts) → FollowsParts is
    follows_parts (last r) = λ p q ts g h. under (PartsIn code q ts (operand_of r)) (StandsIn code q ts (operand_of r)) last (move r) (code_move code p (temps_in r ts)) (λ l us x f. record { at = f.at; temps = f.temps; operand = f.operand }) (follows r p q ts g h)
    follows_parts (more r is) = λ p q ts g h. more_by (now r) r is (follows r) (follows_parts is) p q ts refl g (operand_now code r) h (finished code r p h.0 ts h.2)
