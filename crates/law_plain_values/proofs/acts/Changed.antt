-- A change of one thread alone, after which each counted value stands again, leaves a typed state.
use Rattle.std.proofs.Common.{◌≡◌, ◌≢◌, ⊎_elim, ◌∙◌, ℕ, Some, sym, ap, arith}
use Rattle.fr_base.specs.declared.name.MutexNo.{MutexNo}
use Rattle.fr_store.specs.Keys.{content_k}
use Rattle.fr_store.specs.Store.{Location, box_v, task_v, Store}
use Rattle.fr_store.specs.Typed.{KeyTypes}
use Rattle.fr_store.proofs.Keys.{decide_number}
use Rattle.fr_plain.specs.MachineThreads.{Shared}
use Rattle.fr_plain.specs.PlainState.{Running, PlainState, place_in}
use Rattle.fr_sound.specs.States.{Typing, HasOneMark, MutexTyped}
use Rattle.law_plain_values.specs.acts.Positions.{Position, PositionTypes}
use Rattle.law_plain_values.proofs.acts.OneThread.{store, typing_with, Counted, Changes, share_back, as_many}
use Rattle.law_plain_values.proofs.acts.Marks.{mark_back, one_mark_to}
use Rattle.law_plain_values.proofs.acts.Turned.{untouched_other, touched_own, turn_typed}

module _ {y : Typing} {a a2 : PlainState Position} {t : ℕ} {x x2 : Running Position} {E2 : KeyTypes} {M2 : ℕ → ℕ → Location} (st : PositionTypes y a) (c : Changes y a a2 t x x2 E2 M2) where
  abbrev y2 : Typing
  y2 = typing_with y E2 M2

  abbrev s2 : Store
  s2 = store (typing_with y E2 M2) a2

  -- a thread that goes on went on
  went_on : (u : ℕ) (w : Running Position) → place_in (a2.thread u) ≡ Some w → (v : Running Position) × (place_in (a.thread u) ≡ Some v)
  went_on u w e = ⊎_elim (λ (s : u ≡ t). (x, ap (λ z. place_in (a.thread z)) s ∙ c.was)) (λ (ne : u ≢ t). (w, sym (ap place_in (c.others u ne)) ∙ e)) (decide_number u t)

  one_mark : (m : MutexNo) → HasOneMark a m → HasOneMark a2 m
  one_mark m = one_mark_to a a2 t x x2 c.was c.now c.others m (λ i. c.still i m) (λ i. c.marked i m)

  mutex_two : (m : MutexNo) (z : Shared) → a2.mutex m ≡ Some z → MutexTyped y2 a2 s2 m z
  mutex_two m z e =
      let h = st.mutexes m z (sym (c.mutexes m) ∙ e) in
      record {
        given = c.given m ∙ h.given;
        shares = as_many Counted (store y a) s2 c.carried m (λ q. tt) z.shares h.shares;
        needed = h.needed;
        out = λ f. one_mark m (h.out f);
        unheld = λ v f u i w. h.unheld v f u i (mark_back a a2 t x x2 c.was c.now c.others m (λ i. c.still i m) (λ i. c.marked i m) u i w);
        content = λ v f. c.same (content_k m.home m.count) (λ g. cc) ∙ h.content v f;
      }

  -- THE STATE
  pub changed_typed : PositionTypes y2 a2
  changed_typed = turn_typed st (record {
    was = c.was;
    free = c.free;
    now = c.now;
    others = c.others;
    pairs = c.pairs;
    typed = c.typed;
    mine = c.mine;
    same = λ k h. c.same k (untouched_other t k h);
    of = λ k m u h is. touched_own y a t k m u st h (λ g. sym (c.same k g) ∙ is);
    names = c.names;
    marks = c.marks;
    held = c.held;
    there = λ l m h. let f = st.there (c.carried.from l) m (share_back Counted (store y a) s2 c.carried m (λ q. tt) l h) in (f.0, c.mutexes m ∙ f.1);
    mutexes = mutex_two;
    one_task = λ l m u p q e f. sym (c.carried.to_from l) ∙ ap c.carried.to (st.one_task (c.carried.from l) (c.carried.from m) u p q (c.carried.back l (task_v u p) tt e) (c.carried.back m (task_v u q) tt f)) ∙ c.carried.to_from m;
    task_from = λ l u r e. (c.carried.from l, c.carried.back l (task_v u r) tt e);
    task_to = λ l u r e. (c.carried.to l, r, c.carried.there l (task_v u r) tt e);
    objects_there = λ l o e. let f = st.objects_there (c.carried.from l) o (c.carried.back l (box_v o) tt e) in c.objects o f.0 f.1;
    objects_owned = λ o v e. let g = c.before o v e in let f = st.objects_owned o g.0 g.1 in (c.carried.to f.0, c.carried.there f.0 (box_v o) tt f.1);
    objects_made = λ o v w e runs. let g = c.before o v e in let r = went_on o.thread w runs in let m = st.objects_made o g.0 r.0 g.1 r.1 in let n = c.made o.thread in omega (arith, m, n);
  })
