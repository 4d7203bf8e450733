-- Loads and stores of a plain step in the coloured heap: objects that lie at the entry's server are reached, and one gets another value.
use Rattle.std.proofs.Common.{◌≡◌, ℕ, ◌==◌, ◌&&◌, ◌||◌, Bool, true, false, if◌then◌else◌, List, [], ◌∷◌, ◌++◌, Option, Some, None, option_map, refl, sym, ap, ap₂, ◌∙◌}
use Rattle.std.specs.Prelude.{⊤}
use Rattle.law_entries_reads.specs.Below.law_entries_variables.Below.law_words_ends.Below.fr_base.declared.label.Label.{Label}
use Rattle.law_entries_reads.specs.Below.law_entries_variables.Below.law_words_ends.Below.fr_base.declared.label.Label.TheVariants as label
use Rattle.law_entries_reads.specs.Below.law_entries_variables.Below.law_words_ends.Below.fr_base.declared.label.Plain.{Plain}
use Rattle.law_entries_reads.specs.Below.law_entries_variables.Below.law_words_ends.Below.fr_base.declared.name.ObjNo.{ObjNo}
use Rattle.law_entries_reads.specs.Below.law_entries_variables.Below.law_words_ends.Below.fr_base.Names.{same_plain}
use Rattle.law_entries_reads.specs.Below.law_entries_variables.Below.law_words_ends.Below.fr_base.declared.settings.Options.{Options}
use Rattle.law_entries_reads.specs.Below.law_entries_variables.Below.law_words_ends.Below.fr_base.declared.step.Fresh.TheVariants as fresh
use Rattle.law_entries_reads.specs.Below.law_entries_variables.Below.law_words_ends.Below.journal.View.{EntryView}
use Rattle.law_entries_reads.specs.Below.law_entries_variables.Below.law_words_ends.Below.journal.declared.act.Act.{Act}
use Rattle.law_entries_reads.specs.Below.law_entries_variables.Below.law_words_ends.Below.server_model.Servers.{Cluster}
use Rattle.law_entries_writes.specs.Below.law_entries_variables.Below.coloured_heap.Lists.{holds}
use Rattle.law_entries_writes.specs.Below.law_entries_variables.Below.coloured_heap.Heap.{Lies, Living, Running, Coloured, is_object, object_at, lies_at}
use Rattle.law_entries_writes.specs.Below.law_entries_variables.Below.coloured_heap.Rules.{of_run, allows, is_here}
use Rattle.law_entries_writes.specs.Below.law_entries_variables.Below.coloured_heap.Changes.{after_act, stored, with_value}
use Rattle.law_entries_writes.specs.Below.law_entries_variables.Below.coloured_heap.Reach.{has_copy, is_loaded, reaches}
use Rattle.law_entries_writes.specs.Below.law_entries_variables.Below.coloured_heap.Legal.{is_placed, acts_after, settled}
use Rattle.law_entries_writes.proofs.Below.law_entries_variables.Below.coloured_heap.Found.{found_each}
use Rattle.law_entries_reads.specs.Below.law_entries_variables.Below.law_words_ends.Below.coherent_memory.Sight.{sight}
use Rattle.law_entries_writes.proofs.Below.law_entries_variables.Below.law_heap_still.events.Tests.{numbers, plains}
use Rattle.law_entries_writes.specs.Below.law_entries_variables.deliveries.Entries.{LeadsOn}
use Rattle.law_entries_writes.proofs.Below.law_entries_variables.deliveries.Answers.{Answers, answers_of, Fits, Agrees, coloured_by}
use Rattle.law_entries_writes.proofs.Below.law_entries_variables.deliveries.Runs.{Runs}
use Rattle.law_entries_reads.proofs.Below.law_entries_variables.variables.Led.{done_entry}

-- ANOTHER VALUE

-- an object that gets a value
abbrev pub Store : Type 0
Store = Option (ObjNo × Plain)

abbrev pub valued : Store → Living → Living
valued None x = x
valued (Some s) x = if is_object s.0 x then record x { value = s.1 } else x

-- it has that value
abbrev pub storing : Store → Answers → Answers
storing s q = record q { object = λ o. option_map (valued s) (q.object o) }

-- an object whose pointer is given up
abbrev pub leaving : Option ObjNo → Living → Living
leaving None x = x
leaving (Some p) x = if is_object p x then record x { is_condemned = true } else x

abbrev pub dropping : Option ObjNo → Answers → Answers
dropping d q = record q { object = λ o. option_map (leaving d) (q.object o) }

mapped_none : (f : Living → Living) → ((x : Living) → f x ≡ x) → (o : Option Living) → option_map f o ≡ o
mapped_none f e None = refl
mapped_none f e (Some x) = ap (λ y. Some y) (e x)

mapped_fits : (f : Living → Living) → ((x : Living) → f x ≡ x) → (c : Coloured) (q : Answers) → Fits q c → Fits (record q { object = λ o. option_map f (q.object o) }) c
mapped_fits f e c q h = record {
  objects = λ o. h.objects o ∙ sym (mapped_none f e (q.object o));
  copies = h.copies;
  served = h.served;
  issued = h.issued;
  started = h.started;
  servers = h.servers;
  ended = h.ended;
  wishes = h.wishes;
  made = h.made;
  mutexes = h.mutexes;
}

-- where none is given up
pub none_drops : (c : Coloured) (q : Answers) → Fits q c → Fits (dropping None q) c
none_drops c q h = mapped_fits (leaving None) (λ x. refl) c q h

store_fits : (c : Coloured) (q : Answers) (p : ObjNo) (v : Plain) → Fits q c → Fits (storing (Some (p, v)) q) (with_value c p v)
store_fits c q p v h = record {
  objects = λ n. found_each (is_object n) (is_object p) (λ x. record x { value = v }) c.living (λ y. refl) ∙ ap (option_map (valued (Some (p, v)))) (h.objects n);
  copies = h.copies;
  served = h.served;
  issued = h.issued;
  started = h.started;
  servers = h.servers;
  ended = h.ended;
  wishes = h.wishes;
  made = h.made;
  mutexes = h.mutexes;
}

-- WHAT LIES AT A SERVER

-- the object lies at that server, with that value
pub record Lying (q : Answers) (n : ℕ) (o : ObjNo) (v : Plain) : Type 0 where
  pub living : Living
  pub there : q.object o ≡ Some living
  pub here : living.place ≡ Lies n
  pub value : living.value ≡ v

module _ (q : Answers) (n : ℕ) (o : ObjNo) (v : Plain) (l : Lying q n o v) (c : Coloured) (h : Fits q c) (e : EntryView) (own : e.server ≡ n) where
  here_so : lies_at e.server l.living.place ≡ true
  here_so = ap (lies_at e.server) l.here ∙ ap (λ m. n == m) own ∙ numbers.itself n

  load_reached : holds (is_loaded e.server c v) (object_at c o) ≡ true
  load_reached =
      ap (holds (is_loaded e.server c v)) (h.objects o ∙ l.there) ∙ ap₂ (λ a b. a && (b || has_copy c e.server l.living.word v)) (ap (λ p. same_plain p v) l.value ∙ plains.itself v) here_so

  store_reached : is_here e c o ≡ true
  store_reached = ap (holds (λ (x : Living). lies_at e.server x.place)) (h.objects o ∙ l.there) ∙ here_so

-- THE LABELS

-- each loads an object that lies there, and none stores
abbrev pub AllLoads : Answers → ℕ → List Label → Type 0
AllLoads q n [] = ⊤
AllLoads q n (label.Load p v ∷ ls) = Lying q n p v × AllLoads q n ls
AllLoads q n (label.Store p v ∷ ls) = ⊥
AllLoads q n (_ ∷ ls) = AllLoads q n ls

pub loads_append : (q : Answers) (n : ℕ) (xs ys : List Label) → AllLoads q n xs → AllLoads q n ys → AllLoads q n (xs ++ ys)
loads_append q n [] ys a b = b
loads_append q n (label.Load p v ∷ xs) ys a b = (a.0, loads_append q n xs ys a.1 b)
loads_append q n (label.Store p v ∷ xs) ys a b = absurd a
loads_append q n (_ ∷ xs) ys a b = loads_append q n xs ys a b

loads_store : (q : Answers) (n : ℕ) (xs ys : List Label) → AllLoads q n xs → (c : Coloured) → stored (xs ++ ys) c ≡ stored ys c
loads_store q n [] ys a c = refl
loads_store q n (label.Load p v ∷ xs) ys a c = loads_store q n xs ys a.1 c
loads_store q n (label.Store p v ∷ xs) ys a c = absurd a
loads_store q n (_ ∷ xs) ys a c = loads_store q n xs ys a c

loads_reach : (q : Answers) (n : ℕ) (e : EntryView) → e.server ≡ n → (c : Coloured) → Fits q c → (xs ys : List Label) → AllLoads q n xs → reaches e (xs ++ ys) c ≡ reaches e ys c
loads_reach q n e own c h [] ys a = refl
loads_reach q n e own c h (label.Load p v ∷ xs) ys a = ap₂ (λ b d. b && d) (load_reached q n p v a.0 c h e own) (loads_reach q n e own c h xs ys a.1)
loads_reach q n e own c h (label.Store p v ∷ xs) ys a = absurd a
loads_reach q n e own c h (_ ∷ xs) ys a = loads_reach q n e own c h xs ys a

-- at the end nothing is stored, or one object gets a value that lies there
pub data Stores (q : Answers) (n : ℕ) : List Label → Store → Type 0 where
  stores_none : Stores q n [] None
  stores_one : (p : ObjNo) (u v : Plain) → Lying q n p u → Stores q n (label.Store p v ∷ []) (Some (p, v))

stores_fit : (q : Answers) (n : ℕ) (ss : List Label) (r : Store) → Stores q n ss r → (c : Coloured) → Fits q c → Fits (storing r q) (stored ss c)
stores_fit q n _ _ stores_none c h = mapped_fits (valued None) (λ x. refl) c q h
stores_fit q n _ _ (stores_one p u v l) c h = store_fits c q p v h

stores_reach : (q : Answers) (n : ℕ) (ss : List Label) (r : Store) → Stores q n ss r → (e : EntryView) → e.server ≡ n → (c : Coloured) → Fits q c → reaches e ss c ≡ true
stores_reach q n _ _ stores_none e own c h = refl
stores_reach q n _ _ (stores_one p u v l) e own c h = ap (λ b. b && true) (store_reached q n p u l c h e own)

-- THE ENTRY

-- acts one behind another
acts_then : (o : Options) (e : EntryView) (xs ys : List Act) (c d : Coloured) → acts_after o e xs c ≡ Some d → acts_after o e (xs ++ ys) c ≡ acts_after o e ys d
acts_then o e [] ys c d q = ap (acts_after o e ys) (same q)
  where
    same : Some c ≡ Some d → c ≡ d
    same e = cc
acts_then o e (x ∷ xs) ys c d q = by (allows o e c x) q (acts_then o e xs ys (after_act e c x) d)
  where
    by : (b : Bool) → (if b then acts_after o e xs (after_act e c x) else None) ≡ Some d → (acts_after o e xs (after_act e c x) ≡ Some d → acts_after o e (xs ++ ys) (after_act e c x) ≡ acts_after o e ys d)
        → (if b then acts_after o e (xs ++ ys) (after_act e c x) else None) ≡ acts_after o e ys d
    by true f go = go f
    by false f go = absurd (cc f)

-- acts that run on
pub runs_then : (o : Options) (e : EntryView) (xs ys : List Act) (c : Coloured) (q r : Answers) → Runs o e xs c q → ((d : Coloured) → Fits q d → Runs o e ys d r) → Runs o e (xs ++ ys) c r
runs_then o e xs ys c q r x go =
    let y = go x.state x.fits in
    record { state = y.state; runs = acts_then o e xs ys c x.state x.runs ∙ y.runs; fits = y.fits }

-- the entry leads on: after its acts it loads what lies there, and stores at most once
pub store_leads : (o : Options) (n t : ℕ) (acts : List Act) (ls ss : List Label) (c : Coloured) (before q : Answers) (st : Store) (d : Cluster) → AllLoads q n ls → Stores q n ss st → Fits before c → of_run o n ≡ true
    → (r : Running) → before.running t ≡ Some r → (r.server == n) ≡ true → Runs o (done_entry n t fresh.None acts (ls ++ ss)) acts c q → Agrees (storing st q) (answers_of (sight d)) → LeadsOn o (done_entry n t fresh.None acts (ls ++ ss)) c d
store_leads o n t acts ls ss c before q st d loads stores h run r at here u a = record {
  state = stored ss u.state;
  legal = ap (λ b. settled e (if b then acts_after o e acts c else None)) placed ∙ ap (settled e) u.runs ∙ ap (λ s. Some s) (loads_store q n ls ss loads u.state);
  reached = ap (λ b. holds (reaches e (ls ++ ss)) (if b then acts_after o e acts c else None)) placed ∙ ap (holds (reaches e (ls ++ ss))) u.runs ∙ loads_reach q n e refl u.state u.fits ls ss loads ∙ stores_reach q n ss st stores e refl u.state u.fits;
  stands = coloured_by (storing st q) (sight d) (stored ss u.state) (stores_fit q n ss st stores u.state u.fits) a;
}
  where
    e : EntryView
    e = done_entry n t fresh.None acts (ls ++ ss)

    placed : is_placed o c e ≡ true
    placed = ap₂ (λ b x. b && holds (λ (z : Running). z.server == n) x) run (h.servers t r at) ∙ here
