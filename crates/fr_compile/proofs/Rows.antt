-- What the compiler adds for each form of a term.
use Rattle.std.proofs.Common.{◌≡◌, ℕ, zero, suc, ◌+◌, ◌<◌, Bool, true, false, List, [], ◌∷◌, ◌++◌, length, refl, sym, ap, ap₂, ◌∙◌, subst, arith, append_assoc, append-nil, length-append}
use Rattle.fr_base.specs.declared.place.Lval.{Lval}
use Rattle.fr_base.specs.declared.place.Op.{Op}
use Rattle.fr_base.specs.declared.instruction.Operand.{Operand}
use Rattle.fr_base.specs.declared.instruction.Operand.TheVariants as operand
use Rattle.fr_base.specs.declared.instruction.Instr.{Instr}
use Rattle.fr_base.specs.declared.instruction.Instr.TheVariants as instr
use Rattle.fr_plain.specs.Run.{Capture, Run, arith as arith_r, lock, block, Parts, last}
use Rattle.fr_plain.specs.Resolve.{dropping}
use Rattle.fr_forms.specs.declared.forms.Form.{Form}
use Rattle.fr_forms.specs.FormTerms.{term_of}
use Rattle.fr_code.specs.StandsFor.{operand_of, borrowing}
use Rattle.law_plain_table.specs.Bare.{bare_of, bare}
use Rattle.law_plain_table.specs.CodeOf.{Piece, does, starts, starts_two, given_up, drops, pieces, pieces_in, thread, slots}
use Rattle.law_plain_table.proofs.Bare.{bare_long, bare_join}
use Rattle.fr_compile.specs.declared.waiting.Waiting.{Waiting}
use Rattle.fr_compile.specs.Filling.{filled, Wait, waits}
use Rattle.fr_compile.specs.Emitting.{waits_at, wait_of, waits_of, AllInside, IsAdded, IsEmitted, IsDiscarded, drop_slots}
use Rattle.fr_compile.proofs.Filled.{filled_long, filled_join, waits_join}

module _ (fs : List Form) where
  -- THREADS THAT WAIT

  waits_of_join : (bs cs : List Waiting) → waits_of fs (bs ++ cs) ≡ waits_of fs bs ++ waits_of fs cs
  waits_of_join [] cs = refl
  waits_of_join (b ∷ bs) cs = ap (λ ws. wait_of fs b ∷ ws) (waits_of_join bs cs)

  inside_join : (n : ℕ) (bs cs : List Waiting) → AllInside n bs → AllInside n cs → AllInside n (bs ++ cs)
  inside_join n [] cs h g = g
  inside_join n (b ∷ bs) cs h g = (h.0, inside_join n bs cs h.1 g)

  -- PIECES

  -- nothing
  pub none_added : (a : List Instr) (bs : List Waiting) → IsAdded fs a a bs bs []
  none_added a bs = record { code = sym (append-nil (bare a)); queue = sym (append-nil (waits_of fs bs)); inside = λ h. h }

  added_long : (a f : List Instr) (bs cs : List Waiting) (ps : List Piece) → IsAdded fs a f bs cs ps → length f ≡ length a + length ps
  added_long a f bs cs ps h = sym (bare_long f) ∙ ap length h.code ∙ length-append (bare a) (filled [] ps) ∙ ap₂ (λ (n m : ℕ). n + m) (bare_long a) (filled_long [] ps)

  -- some behind others
  pub then_added : (a c f : List Instr) (bs cs ds : List Waiting) (ps qs : List Piece) → IsAdded fs a c bs cs ps → IsAdded fs c f cs ds qs → IsAdded fs a f bs ds (ps ++ qs)
  then_added a c f bs cs ds ps qs h g = record {
    code = g.code ∙ ap (λ is. is ++ filled [] qs) h.code ∙ append_assoc (bare a) (filled [] ps) (filled [] qs) ∙ ap (λ is. bare a ++ is) (sym (filled_join [] ps qs (omega arith)));
    queue = g.queue
        ∙ ap₂ (λ (us vs : List Wait). us ++ vs) h.queue (ap (λ n. waits n qs) (added_long a c bs cs ps h))
        ∙ append_assoc (waits_of fs bs) (waits (length a) ps) (waits (length a + length ps) qs)
        ∙ ap (λ us. waits_of fs bs ++ us) (sym (waits_join (length a) ps qs));
    inside = λ k. g.inside (h.inside k);
  }

  -- an instruction that starts no thread
  pub one_added : (a f : List Instr) (bs : List Waiting) (i : Instr) → f ≡ a ++ i ∷ [] → bare_of i ≡ i → IsAdded fs a f bs bs (does i ∷ [])
  one_added a f bs i e known = record {
    code = ap bare e ∙ bare_join a (i ∷ []) ∙ ap (λ j. bare a ++ j ∷ []) known;
    queue = sym (append-nil (waits_of fs bs));
    inside = λ h. h;
  }

  -- slots that are dropped
  bare_drops : (k : ℕ) → bare (drop_slots k) ≡ filled [] (drops k)
  bare_drops zero = refl
  bare_drops (suc k) = ap (λ is. instr.DropSlot ∷ is) (bare_drops k)

  drops_wait : (n k : ℕ) → waits n (drops k) ≡ []
  drops_wait n zero = refl
  drops_wait n (suc k) = drops_wait (n + 1) k

  pub drops_added : (a f : List Instr) (bs : List Waiting) (k : ℕ) → f ≡ a ++ drop_slots k → IsAdded fs a f bs bs (drops k)
  drops_added a f bs k e = record {
    code = ap bare e ∙ bare_join a (drop_slots k) ∙ ap (λ is. bare a ++ is) (bare_drops k);
    queue = sym (ap (λ us. waits_of fs bs ++ us) (drops_wait (length a) k) ∙ append-nil (waits_of fs bs));
    inside = λ h. h;
  }

  -- a value before a `;`
  pub discard_added : (a f : List Instr) (bs : List Waiting) (o : Operand) → IsDiscarded a o f → IsAdded fs a f bs bs (given_up o)
  discard_added a f bs operand.Pop e = one_added a f bs instr.Discard e refl
  discard_added a f bs (operand.Const n) e = subst (λ c. IsAdded fs a c bs bs []) (sym e) (none_added a bs)
  discard_added a f bs operand.Unit e = subst (λ c. IsAdded fs a c bs bs []) (sym e) (none_added a bs)

  -- FORMS

  -- a term and one instruction that takes its value
  pub unary_added : (a c f : List Instr) (bs cs : List Waiting) (I : Operand → Instr) (v : Operand) (r : Run) → IsEmitted fs a c bs cs v r → f ≡ c ++ I v ∷ [] → ((o : Operand) → bare_of (I o) ≡ I o) → IsAdded fs a f bs cs (pieces r ++ does (I (operand_of r)) ∷ [])
  unary_added a c f bs cs I v r h e known =
      then_added a c f bs cs cs (pieces r) (does (I (operand_of r)) ∷ []) h.1 (one_added c f cs (I (operand_of r)) (e ∙ ap (λ o. c ++ I o ∷ []) h.0) (known (operand_of r)))

  -- two terms and one instruction that takes the values of both
  pub binary_added : (a c d f : List Instr) (bs cs ds : List Waiting) (op : Op) (v w : Operand) (x y : Run) → IsEmitted fs a c bs cs v x → IsEmitted fs c d cs ds w y → f ≡ d ++ instr.Arith op v w ∷ [] → IsAdded fs a f bs ds (pieces (arith_r op x y))
  binary_added a c d f bs cs ds op v w x y h g e =
      then_added a c f bs cs ds (pieces x) (pieces y ++ does (instr.Arith op (operand_of x) (operand_of y)) ∷ []) h.1
      (then_added c d f cs ds ds (pieces y) (does (instr.Arith op (operand_of x) (operand_of y)) ∷ []) g.1 (one_added d f ds (instr.Arith op (operand_of x) (operand_of y)) (e ∙ ap₂ (λ (l m : Operand). d ++ instr.Arith op l m ∷ []) h.0 g.0) refl))

  -- a reference
  bare_borrowing : (w : Lval) (is_mut : Bool) → bare_of (borrowing w is_mut) ≡ borrowing w is_mut
  bare_borrowing w true = refl
  bare_borrowing w false = refl

  pub borrow_added : (a f : List Instr) (bs : List Waiting) (w : Lval) (is_mut : Bool) (i : Instr) → f ≡ a ++ i ∷ [] → i ≡ borrowing w is_mut → IsAdded fs a f bs bs (does (borrowing w is_mut) ∷ [])
  borrow_added a f bs w is_mut i e h = one_added a f bs (borrowing w is_mut) (e ∙ ap (λ j. a ++ j ∷ []) h) (bare_borrowing w is_mut)

  -- a body's variables are dropped before the mutex is unlocked
  dropping_pieces : (k : ℕ) (r : Run) → pieces (dropping k r) ≡ pieces r ++ drops k
  dropping_pieces zero r = sym (append-nil (pieces r))
  dropping_pieces (suc k) r = refl

  dropping_operand : (k : ℕ) (r : Run) → operand_of (dropping k r) ≡ operand_of r
  dropping_operand zero r = refl
  dropping_operand (suc k) r = refl

  pub lock_emitted : (a b c f : List Instr) (bs cs : List Waiting) (w : Lval) (v : Operand) (k : ℕ) (r : Run) → b ≡ a ++ instr.Lock w ∷ [] → IsEmitted fs b c bs cs v r → f ≡ (c ++ drop_slots k) ++ instr.Unlock ∷ [] → IsEmitted fs a f bs cs v (lock w (dropping k r))
  lock_emitted a b c f bs cs w v k r e h g =
      let d = c ++ drop_slots k in
      let body : IsAdded fs b d bs cs (pieces (dropping k r)) =
      subst (IsAdded fs b d bs cs) (sym (dropping_pieces k r)) (then_added b c d bs cs cs (pieces r) (drops k) h.1 (drops_added c d cs k refl)) in (
        h.0 ∙ sym (dropping_operand k r),
        then_added a b f bs bs cs (does (instr.Lock w) ∷ []) (pieces (dropping k r) ++ does instr.Unlock ∷ []) (one_added a b bs (instr.Lock w) e refl)
            (then_added b d f bs cs cs (pieces (dropping k r)) (does instr.Unlock ∷ []) body (one_added d f cs instr.Unlock g refl)),
      )

  -- a block
  pub block_emitted : (a c f : List Instr) (bs cs : List Waiting) (o : Operand) (is : Parts) (k : ℕ) → IsAdded fs a c bs cs (pieces_in is) → f ≡ c ++ drop_slots k → IsAdded fs a f bs cs (pieces (block k is))
  block_emitted a c f bs cs o is k h e = then_added a c f bs cs cs (pieces_in is) (drops k) h (drops_added c f cs k e)

  -- a thread, with its slots and its end
  pub thread_added : (a c d f : List Instr) (bs cs : List Waiting) (v : Operand) (r : Run) (k : ℕ) → IsEmitted fs a c bs cs v r → d ≡ c ++ drop_slots k → f ≡ d ++ instr.End v ∷ [] → IsAdded fs a f bs cs (thread (block k (last r)))
  thread_added a c d f bs cs v r k h e g =
      then_added a d f bs cs cs (pieces (block k (last r))) (does (instr.End (operand_of r)) ∷ []) (block_emitted a c d bs cs v (last r) k h.1 e) (one_added d f cs (instr.End (operand_of r)) (g ∙ ap (λ o. d ++ instr.End o ∷ []) h.0) refl)

  -- STARTS

  pub spawn_added : (a f : List Instr) (bs cs : List Waiting) (us : List Capture) (body k : ℕ) → bare f ≡ bare a ++ instr.Spawn (slots us) 0 ∷ [] → cs ≡ bs ++ waits_at (length a) false body k ∷ [] → body < length fs
      → IsAdded fs a f bs cs (starts us (block k (last (term_of fs body))) ∷ [])
  spawn_added a f bs cs us body k e q lt = record {
    code = e;
    queue = ap (waits_of fs) q ∙ waits_of_join bs (waits_at (length a) false body k ∷ []);
    inside = λ h. subst (AllInside (length fs)) (sym q) (inside_join (length fs) bs (waits_at (length a) false body k ∷ []) h (lt, tt));
  }

  pub par_added : (a f : List Instr) (bs cs : List Waiting) (us vs : List Capture) (ours theirs k l : ℕ) → bare f ≡ bare a ++ instr.Par (slots us) 0 (slots vs) 0 ∷ instr.ParEnd ∷ []
      → cs ≡ bs ++ waits_at (length a) false ours k ∷ waits_at (length a) true theirs l ∷ [] → ours < length fs → theirs < length fs
      → IsAdded fs a f bs cs (starts_two us (block k (last (term_of fs ours))) vs (block l (last (term_of fs theirs))) ∷ does instr.ParEnd ∷ [])
  par_added a f bs cs us vs ours theirs k l e q lt gt =
      let both = waits_at (length a) false ours k ∷ waits_at (length a) true theirs l ∷ [] in
      record { code = e; queue = ap (waits_of fs) q ∙ waits_of_join bs both; inside = λ h. subst (AllInside (length fs)) (sym q) (inside_join (length fs) bs both h (lt, (gt, tt))) }
