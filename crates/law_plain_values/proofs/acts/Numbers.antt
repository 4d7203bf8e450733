-- Printing and arithmetic keep a state typed.
use Rattle.std.proofs.Common.{◌≡◌, ◌∙◌, ap₂, List, [], ◌∷◌, ◌++◌, Option, None, refl, sym, ap, subst, arith}
use Rattle.fr_base.specs.declared.place.Op.{Op}
use Rattle.fr_base.specs.declared.label.Label.TheVariants as label
use Rattle.fr_base.specs.declared.label.Plain.TheVariants as plain
use Rattle.fr_base.specs.declared.step.Fresh.TheVariants as fresh
use Rattle.fr_typing.specs.Kinds.{Owned, int, Kind, own}
use Rattle.fr_typing.specs.Places.{Env}
use Rattle.fr_store.specs.Store.{int_v}
use Rattle.fr_store.specs.Typed.{int_tree, owns}
use Rattle.fr_store.specs.Changes.{new_int}
use Rattle.fr_plain.specs.declared.value.Value.{Value}
use Rattle.fr_plain.specs.declared.value.Value.TheVariants.{Own}
use Rattle.fr_plain.specs.MachineActs.{do_print, do_arith, result_of, unit as unit_value}
use Rattle.fr_plain.specs.MachineThreads.{Now, Move, Life, Thread, Whole}
use Rattle.fr_plain.specs.Machine.{done_act}
use Rattle.fr_plain.specs.PlainState.{Running, plain_state}
use Rattle.fr_sound.specs.Entries.{Entry, going}
use Rattle.fr_sound.specs.States.{Typing}
use Rattle.law_plain_values.specs.acts.Positions.{Position, moves_by, StartsAs}
use Rattle.law_plain_values.specs.acts.ActRows.{Pops, Leaves, quiet, loud, left_after, ActRow, r_print, r_arith}
use Rattle.law_plain_values.specs.acts.Keeps.{Ready, StepsTyped, Keeps, IsPrint, IsArith}
use Rattle.law_plain_values.proofs.acts.OneThread.{store}
use Rattle.law_plain_values.proofs.acts.Focus.{top_none, hand_at}
use Rattle.law_plain_values.proofs.acts.Hand.{At, ranked, push, push_none, typed_new, put_running, only_put, objects_put, only_after}
use Rattle.law_plain_values.proofs.acts.Done.{runs_here, only_here}
use Rattle.law_plain_values.proofs.acts.Operands.{load, int_gone, steps_typed}

-- PRINT

record PrintRow (x : Entry) (vs : List Value) (v : Value) (l : Leaves) (z : Entry) : Type 0 where
  env : Env
  before : List Kind
  after : List Kind
  left : List Value
  result : Owned
  pops : Pops before vs v (own int) after left
  entry : x ≡ going env before result
  leaves : l ≡ quiet left
  comes : z ≡ going env after result

print_row : {x z : Entry} {vs : List Value} {v : Value} {l : Leaves} → ActRow StartsAs x vs (do_print v) l z → PrintRow x vs v l z
print_row (r_print {e = e} {ts = ts} {us = us} {ws = ws} {g = g} pops) = record { env = e; before = ts; after = us; left = ws; result = g; pops = pops; entry = refl; leaves = refl; comes = refl }

module _ (now : Position → Now) (move : Position → Option (Move Position Position)) (y : Typing) (s : Whole Position) (t : Thread Position) (p : Position) (wrap : Position → Life Position) (plug : Value → Position) where
  print_steps : (v : Value) → Ready y s t p wrap (do_print v) plug → StepsTyped y (moves_by now move) s t fresh.None (record { act = do_print v; plug = λ z. wrap (plug z) })
  print_steps v r =
      let i = print_row r.row in
      let x : Running Position = record { place = p; slots = t.slots } in
      let q : Position = record { entry = going i.env i.after i.result; temps = i.left } in
      let h : At y (plain_state s) t.number x i.env i.before i.result = record { state = r.state; runs = runs_here s t p wrap r.goes_on r.found r.at; entry = i.entry } in
      let l = load y (plain_state s) t.number x i.env i.result h refl i.pops in
      let only = only_here s t p wrap r.goes_on r.found r.at q t.slots s.heap s.output (λ u. omega arith) in
      let g = int_gone (plain_state s) _ t.number x i.env i.after i.result v i.left l only (λ o. refl) in
      steps_typed now move s t wrap (record { act = do_print v; plug = λ z. wrap (plug z) }) plug unit_value q t.slots s.heap (label.Print g.number ∷ []) y g.becomes.typing r.goes_on
      (r.comes unit_value ∙ ap₂ (λ a b. record { entry = a; temps = left_after b unit_value }) i.comes i.leaves)
      (ap (λ w. done_act (moves_by now move) s t fresh.None (record { act = do_print v; plug = λ z. wrap (plug z) }) (do_print w)) g.is)
      g.becomes.at.state
      g.becomes.names
      g.becomes.refs

pub print_keeps : Keeps IsPrint
print_keeps now move y s t p wrap act plug h r =
    subst (λ a. StepsTyped y (moves_by now move) s t fresh.None (record { act = a; plug = λ z. wrap (plug z) })) (sym h.1) (print_steps now move y s t p wrap plug h.0 (subst (λ a. Ready y s t p wrap a plug) h.1 r))

-- ARITHMETIC

record ArithRow (x : Entry) (vs : List Value) (f : Op) (v w : Value) (l : Leaves) (z : Entry) : Type 0 where
  env : Env
  before : List Kind
  between : List Kind
  after : List Kind
  middle : List Value
  left : List Value
  result : Owned
  second : Pops before vs w (own int) between middle
  first : Pops between middle v (own int) after left
  entry : x ≡ going env before result
  leaves : l ≡ loud left
  comes : z ≡ going env (own int ∷ after) result

arith_row : {x z : Entry} {vs : List Value} {f : Op} {v w : Value} {l : Leaves} → ActRow StartsAs x vs (do_arith f v w) l z → ArithRow x vs f v w l z
arith_row (r_arith {e = e} {ts = ts} {us = us} {rs = rs} {ws = ws} {xs = xs} {g = g} b a) = record { env = e; before = ts; between = us; after = rs; middle = ws; left = xs; result = g; second = b; first = a; entry = refl; leaves = refl; comes = refl }

module _ (now : Position → Now) (move : Position → Option (Move Position Position)) (y : Typing) (s : Whole Position) (t : Thread Position) (p : Position) (wrap : Position → Life Position) (plug : Value → Position) where
  arith_steps : (f : Op) (v w : Value) → Ready y s t p wrap (do_arith f v w) plug → StepsTyped y (moves_by now move) s t fresh.None (record { act = do_arith f v w; plug = λ z. wrap (plug z) })
  arith_steps f v w r =
      let i = arith_row r.row in
      let a0 = plain_state s in
      let x : Running Position = record { place = p; slots = t.slots } in
      let x1 : Running Position = record { place = record { entry = going i.env i.between i.result; temps = i.middle }; slots = t.slots } in
      let x2 : Running Position = record { place = record { entry = going i.env i.after i.result; temps = i.left }; slots = t.slots } in
      let h : At y (plain_state s) t.number x i.env i.before i.result = record { state = r.state; runs = runs_here s t p wrap r.goes_on r.found r.at; entry = i.entry } in
      let l1 = load y (plain_state s) t.number x i.env i.result h refl i.second in
      let a1 = put_running (plain_state s) t.number x1 in
      let g1 = int_gone (plain_state s) a1 t.number x i.env i.between i.result w i.middle l1 (only_put (plain_state s) t.number x1) (objects_put (plain_state s) t.number x1) in
      let l2 = load g1.becomes.typing a1 t.number x1 i.env i.result g1.becomes.at refl i.first in
      let a2 = put_running a1 t.number x2 in
      let g2 = int_gone a1 a2 t.number x1 i.env i.after i.result v i.left l2 (only_put a1 t.number x2) (objects_put a1 t.number x2) in
      let n = result_of f g2.number g1.number in
      let q : Position = record { entry = going i.env (own int ∷ i.after) i.result; temps = Own (plain.Int n) ∷ i.left } in
      let x3 : Running Position = record { place = q; slots = t.slots } in
      let only = only_here s t p wrap r.goes_on r.found r.at q t.slots s.heap (s.output ++ []) (λ u. omega arith) in
      let k = ranked g2.becomes.typing a2 t.number x2 i.env i.after i.after None i.result g2.becomes.at top_none l2.waits in
      let b = push k.typing a2 _ t.number x2 i.env i.after i.result (own int) (Own (plain.Int n)) (owns int_tree) k.at k.focus
      (only_after a1 _ t.number x2 x3 (only_after (plain_state s) _ t.number x1 x3 only))
      (λ o. sym (objects_put a1 t.number x2 o ∙ objects_put (plain_state s) t.number x1 o))
      (typed_new k.typing.rank k.typing.exact (store k.typing a2) (hand_at t.number i.after) int_tree (int_v n) k.at.state.typed k.focus.thread.quiet (new_int n))
      refl tt (λ m u e. absurd cc) (λ c. c) in
      steps_typed now move s t wrap (record { act = do_arith f v w; plug = λ z. wrap (plug z) }) plug (Own (plain.Int n)) q t.slots s.heap [] y b.typing r.goes_on
      (r.comes (Own (plain.Int n)) ∙ ap₂ (λ a c. record { entry = a; temps = left_after c (Own (plain.Int n)) }) i.comes i.leaves)
      (ap₂ (λ a c. done_act (moves_by now move) s t fresh.None (record { act = do_arith f v w; plug = λ z. wrap (plug z) }) (do_arith f a c)) g2.is g1.is)
      b.at.state
      (b.names ∙ k.names ∙ g2.becomes.names ∙ g1.becomes.names)
      (λ j u e. g1.becomes.refs j u (g2.becomes.refs j u (k.refs j u (push_none b (λ v f. absurd cc) j u e))))

pub arith_keeps : Keeps IsArith
arith_keeps now move y s t p wrap act plug h r =
    subst (λ a. StepsTyped y (moves_by now move) s t fresh.None (record { act = a; plug = λ z. wrap (plug z) })) (sym h.3) (arith_steps now move y s t p wrap plug h.0 h.1 h.2 (subst (λ a. Ready y s t p wrap a plug) h.3 r))
