-- Steps that change no answer: variables that are declared, what owns nothing that goes, and what a join takes.
use Rattle.std.proofs.Common.{◌≡◌, ℕ, ◌+◌, ◌==◌, not, false, List, [], ◌∷◌, Some, None, refl, sym, ap, ap₂, ◌∙◌, arith}
use Rattle.law_words_ends.specs.Below.fr_base.declared.name.MutexNo.{MutexNo}
use Rattle.law_words_ends.specs.Below.fr_base.declared.label.Label.{Label}
use Rattle.law_words_ends.specs.Below.fr_base.declared.step.Fresh.TheVariants as fresh
use Rattle.law_words_ends.specs.Below.thread_state.View.{ThreadState, is_over}
use Rattle.law_words_ends.specs.Below.journal.declared.act.Act.{Act}
use Rattle.law_words_ends.specs.Below.server_model.Servers.{Server, Cluster, server_at}
use Rattle.law_words_ends.specs.Below.server_model.Work.{Hand, thread_in}
use Rattle.law_entries_variables.specs.Below.coloured_heap.Heap.{Running, Coloured}
use Rattle.law_words_ends.specs.Below.coherent_memory.Names.{tot, one, if_so}
use Rattle.law_words_ends.specs.Below.coherent_memory.Things.{Thing, stands}
use Rattle.law_words_ends.specs.Below.coherent_memory.Sight.{sight}
use Rattle.law_words_ends.specs.Below.coherent_memory.Colours.{StandsColoured, running_of}
use Rattle.law_words_ends.specs.Below.coherent_memory.Coherent.{IsSound}
use Rattle.law_entries_variables.proofs.Below.law_heap_still.events.Tests.{numbers}
use Rattle.law_entries_variables.proofs.Below.law_heap_still.events.Told.{told, at_thread}
use Rattle.law_entries_variables.specs.Below.law_heap_still.events.Shows.{ShownThread}
use Rattle.law_words_ends.specs.Below.coherent_memory.Weights.{is_thread}
use Rattle.law_words_ends.specs.Below.law_words_paths.words.Unmoved.{LeavesWords}
use Rattle.law_entries_variables.proofs.deliveries.Answers.{Answers, answers_of, Fits, fits}
use Rattle.law_entries_variables.proofs.deliveries.Shown.{if_some, holder_by, runs}
use Rattle.law_entries_variables.proofs.deliveries.Runs.{runs_none}
use Rattle.law_entries_variables.proofs.deliveries.Applied.{server_there}
use Rattle.law_entries_variables.proofs.still.Settled.{runs_here, none_held}
use Rattle.law_entries_variables.proofs.still.Kept.{masked_of}
use Rattle.law_entries_variables.proofs.variables.Turning.{Turning}
use Rattle.law_entries_variables.proofs.variables.Holders.{gifted}
use Rattle.law_entries_variables.proofs.variables.Led.{Ends, done_entry, done_leads, Steps}
use Rattle.law_entries_variables.proofs.variables.Aside.{Aside, only, one_changes, Silently, all_agree}

-- no mutex is named
pub names_none : (n t : ℕ) (acts : List Act) (ls : List Label) (q : Answers) → Ends (done_entry n t fresh.None acts ls) q q
names_none n t acts ls q = record { allowed = λ c h. refl; fits = λ c h. h }

module _ (k : Cluster) (sound : IsSound k) (number : ℕ) (s : Server) (here : server_at k.servers number ≡ Some s) (c0 : Coloured) (is_coloured : StandsColoured k c0) (y : ThreadState) (at : thread_in s.threads y.number ≡ Some y) (live : is_over y.phase ≡ false) where
  abbrev n : ℕ
  n = s.rest.number

  -- who it is
  abbrev pub running_here : Running
  running_here = record { thread = y.number; server = n; has_ended = false }

  -- the one that steps runs
  pub it_runs : running_of (sight k) y.number ≡ Some running_here
  it_runs = runs_here k sound number s here c0 is_coloured y.number y at live

  -- it goes on where it was
  pub runs_on : (z : ThreadState) → z.number ≡ y.number → is_over z.phase ≡ false → (t : ℕ) (g : Running → ℕ) → runs g t (stands n false y) ≡ runs g t (stands n false z)
  runs_on z named on t g = ap₂ (λ i q. if_so (i == t) (told g (if_some (not q) (record { thread = t; server = n; has_ended = false })))) (sym named) (live ∙ sym on)

  -- nothing comes and goes beside it, and it has no gift
  quiet_silently : (z : ThreadState) → z.number ≡ y.number → is_over z.phase ≡ false → ((o : MutexNo) (g : ℕ → ℕ) → told g (holder_by (sight k) o (stands n false y)) ≡ 0) → z.gift ≡ None → Silently k (stands n false y ∷ []) (stands n false z ∷ [])
  quiet_silently z named on unheld free = record {
    aside = record { objects = λ o g. refl; drops = λ o. refl; copies = λ r w g. refl; served = λ b. refl; issued = λ h r w. refl; wishes = λ b. refl };
    started = λ r i. refl;
    made = λ r i. refl;
    threads = λ t. ap (λ i. one (i == t) + 0) (sym named);
    running = λ t g. let same = runs_on z named on t g in omega (arith, same);
    there = λ m. omega arith;
    holders = λ m g. omega (arith, unheld m g, none_held k sound number s here c0 is_coloured y.number y at live z free m g);
  }

  -- a step after which nothing that is asked has changed, beside things that are neither threads nor objects
  pub silent_steps : (h : Hand) (olds news : List Thing) → Turning s y olds news [] h → h.thread.gift ≡ None → Aside olds news → ((t : ℕ) → tot (is_thread t) olds ≡ tot (is_thread t) news)
      → ((i : ShownThread → ℕ) (t : ℕ) → tot (at_thread (λ v. i (masked_of v)) t) olds ≡ tot (at_thread (λ v. i (masked_of v)) t) news) → tot (gifted (only y.number)) olds ≡ tot (gifted (only y.number)) news
      → ((z : ThreadState) → z.number ≡ y.number → is_over z.phase ≡ false → z.gift ≡ None → Silently k (stands n false y ∷ olds) (stands n false z ∷ news)) → Steps (LeavesWords k) k s y c0 fresh.None false h
  silent_steps h olds news t free aside threads slots gifts same = record {
    olds = olds;
    news = news;
    acts = [];
    turned = t;
    gift = free;
    leads = λ c z named bare on f words.
        let q0 : Answers = answers_of (sight k) in
        let all : Fits q0 c0 = fits (sight k) c0 is_coloured in
        done_leads k.options n y.number fresh.None [] h.work.labels c0 q0 q0 q0 c t.labels all (server_there k sound number s here).0 running_here it_runs (numbers.itself n) (runs_none k.options (done_entry n y.number fresh.None [] h.work.labels) c0 q0 all)
        (names_none n y.number [] h.work.labels q0)
        (all_agree k c (stands n false y ∷ olds) (stands n false z ∷ news) sound f words.words (only y.number) (one_changes k c sound number s here y at z named bare olds news f aside.objects threads slots gifts) (same z named on bare));
  }

  -- where nothing came or went
  pub quiet_steps : (h : Hand) → Turning s y [] [] [] h → h.thread.gift ≡ None → ((o : MutexNo) (g : ℕ → ℕ) → told g (holder_by (sight k) o (stands n false y)) ≡ 0) → Steps (LeavesWords k) k s y c0 fresh.None false h
  quiet_steps h t free unheld =
      silent_steps h [] [] t free (record { objects = λ o g. refl; drops = λ o. refl; copies = λ r w g. refl; served = λ b. refl; issued = λ i r w. refl; wishes = λ b. refl }) (λ i. refl) (λ i j. refl) refl (λ z named on bare. quiet_silently z named on unheld bare)
