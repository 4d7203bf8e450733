-- What words ask for stands in its range.
use Rattle.std.proofs.Common.{◌≡◌, ℕ, ◌≤◌, ◌==◌, ◌&&◌, Bool, true, false, List, [], ◌∷◌, Option, Some, None, nat_le, ◌-◌, ◌^◌, refl, ap₂, subst, arith}
use Rattle.std.specs.Prelude.{if◌then◌else◌, codes}
use Rattle.std.specs.Str.Parse.{digits_value}
use Rattle.std.proofs.lemmas.Bool.{and_parts, leb-true, le-leb}
use Rattle.fr_base.specs.declared.settings.Options.{Options}
use Rattle.drust_cli.specs.declared.asked.Asked.{Asked}
use Rattle.drust_cli.specs.declared.asked.Command.{Command}
use Rattle.coherent_memory.specs.Names.{other}
use Rattle.coherent_memory.specs.Naming.{between, options_out}
use Rattle.drust_cli.specs.Numbers.{is_number, in_range, number_of}
use Rattle.drust_cli.specs.Reading.{Given, Text, read, value_of}
use Rattle.drust_cli.specs.Asked.{◌>>=◌, Values, command_of, names_of, number_or, machine_of, pace_of, options_of, asked_with, with_given, by_command, asked}

-- a number in a range
pub record IsWithin (low high n : ℕ) : Type 0 where
  pub least : low ≤ n
  pub most : n ≤ high

Some-same : (a b : ℕ) → Some a ≡ Some b → a ≡ b
Some-same a b h = cc

in_its_range : (low high v n : ℕ) → in_range low high v ≡ Some n → IsWithin low high n
in_its_range low high v n h = by (nat_le low v && nat_le v high) refl h
  where
    by : (b : Bool) → (nat_le low v && nat_le v high) ≡ b → (if b then Some v else None) ≡ Some n → IsWithin low high n
    by true e g =
        let parts = and_parts (nat_le low v) (nat_le v high) e in
        subst (IsWithin low high) (Some-same v n g) (record { least = leb-true low v parts.0; most = leb-true v high parts.1 })
    by false e g = absurd cc

spelled : (text : Text) (low high n : ℕ) → number_of text low high ≡ Some n → IsWithin low high n
spelled text low high n h = by (is_number text) h
  where
    by : (b : Bool) → (if b then in_range low high (digits_value 10 text) else None) ≡ Some n → IsWithin low high n
    by true g = in_its_range low high (digits_value 10 text) n g
    by false g = absurd cc

-- the number of an option, given or not
pub number_within : (o : Option Text) (low high default n : ℕ) → IsWithin low high default → number_or o low high default ≡ Some n → IsWithin low high n
number_within None low high default n d h = subst (IsWithin low high) (Some-same default n h) d
number_within (Some text) low high default n d h = spelled text low high n h

-- what goes on after something was there
record Goes {A B : Type 0} (o : Option A) (f : A → Option B) (b : B) : Type 0 where
  pub value : A
  pub is : o ≡ Some value
  pub next : f value ≡ Some b

goes : {A B : Type 0} (o : Option A) (f : A → Option B) (b : B) → (o >>= f) ≡ Some b → Goes o f b
goes None f b h = absurd cc
goes (Some a) f b h = record { value = a; is = refl; next = h }

-- the size of a generated program
sized : (c : Command) (values : Values) (a : Asked) → asked_with c values ≡ Some a → IsWithin 1 4000 a.size
unfolding asked_with
sized c values a h =
    let options = goes (options_of values) _ a h in
    let number = goes (number_or (values (codes "number")) 0 18446744073709551615 0) _ a options.next in
    let size = goes (number_or (values (codes "size")) 1 4000 1) _ a number.next in
    let same : size.value ≡ a.size = cc in
    subst (IsWithin 1 4000) same (number_within (values (codes "size")) 1 4000 1 size.value (record { least = omega arith; most = omega arith }) size.is)

sized_given : (c : Command) (given : Option Given) (a : Asked) → with_given c given ≡ Some a → IsWithin 1 4000 a.size
sized_given c None a h = absurd cc
sized_given c (Some given) a h = sized c (λ name. value_of name given) a h

sized_by : (c : Option Command) (rest : List Text) (a : Asked) → by_command c rest ≡ Some a → IsWithin 1 4000 a.size
sized_by None rest a h = absurd cc
sized_by (Some c) rest a h = sized_given c (read (names_of c) None rest []) a h

pub asked_size : (words : List Text) (a : Asked) → asked words ≡ Some a → IsWithin 1 4000 a.size
asked_size [] a h = absurd cc
asked_size (word ∷ rest) a h = sized_by (command_of word) rest a h

-- THE OPTIONS

record AreWithin (o : Options) : Type 0 where
  pub servers : IsWithin 1 64 o.servers
  pub workers : IsWithin 1 64 o.workers
  pub colours : IsWithin 1 65536 o.colours
  pub cache : IsWithin 0 65536 o.cache
  pub quantum : IsWithin 1 1024 o.quantum
  pub turns : IsWithin 1 1000000000 o.turns
  pub balance : IsWithin 0 1000000 o.balance
  pub choice : IsWithin 0 18446744073709551615 o.choice

record AreMachine (m : ℕ × ℕ × ℕ × ℕ) : Type 0 where
  pub servers : IsWithin 1 64 m.0
  pub workers : IsWithin 1 64 m.1
  pub colours : IsWithin 1 65536 m.2
  pub cache : IsWithin 0 65536 m.3

record ArePace (p : ℕ × ℕ × ℕ) : Type 0 where
  pub quantum : IsWithin 1 1024 p.0
  pub turns : IsWithin 1 1000000000 p.1
  pub balance : IsWithin 0 1000000 p.2

machine_within : (values : Values) (m : ℕ × ℕ × ℕ × ℕ) → machine_of values ≡ Some m → AreMachine m
unfolding machine_of
machine_within values m h =
    let servers = goes (number_or (values (codes "servers")) 1 64 1) _ m h in
    let workers = goes (number_or (values (codes "workers")) 1 64 1) _ m servers.next in
    let colours = goes (number_or (values (codes "colours")) 1 65536 65536) _ m workers.next in
    let cache = goes (number_or (values (codes "cache")) 0 65536 64) _ m colours.next in
    let same : (servers.value, workers.value, colours.value, cache.value) ≡ m = cc in
    subst AreMachine same (record {
      servers = number_within (values (codes "servers")) 1 64 1 servers.value (record { least = omega arith; most = omega arith }) servers.is;
      workers = number_within (values (codes "workers")) 1 64 1 workers.value (record { least = omega arith; most = omega arith }) workers.is;
      colours = number_within (values (codes "colours")) 1 65536 65536 colours.value (record { least = omega arith; most = omega arith }) colours.is;
      cache = number_within (values (codes "cache")) 0 65536 64 cache.value (record { least = omega arith; most = omega arith }) cache.is;
    })

pace_within : (values : Values) (p : ℕ × ℕ × ℕ) → pace_of values ≡ Some p → ArePace p
unfolding pace_of
pace_within values p h =
    let quantum = goes (number_or (values (codes "quantum")) 1 1024 16) _ p h in
    let turns = goes (number_or (values (codes "turns")) 1 1000000000 1000000) _ p quantum.next in
    let balance = goes (number_or (values (codes "balance")) 0 1000000 0) _ p turns.next in
    let same : (quantum.value, turns.value, balance.value) ≡ p = cc in
    subst ArePace same (record {
      quantum = number_within (values (codes "quantum")) 1 1024 16 quantum.value (record { least = omega arith; most = omega arith }) quantum.is;
      turns = number_within (values (codes "turns")) 1 1000000000 1000000 turns.value (record { least = omega arith; most = omega arith }) turns.is;
      balance = number_within (values (codes "balance")) 0 1000000 0 balance.value (record { least = omega arith; most = omega arith }) balance.is;
    })

options_within : (values : Values) (o : Options) → options_of values ≡ Some o → AreWithin o
unfolding options_of
options_within values o h =
    let machine = goes (machine_of values) _ o h in
    let pace = goes (pace_of values) _ o machine.next in
    let choice = goes (number_or (values (codes "choice")) 0 18446744073709551615 0) _ o pace.next in
    let trace = goes (number_or (values (codes "trace")) 0 1 0) _ o choice.next in
    let m = machine_within values machine.value machine.is in
    let p = pace_within values pace.value pace.is in
    let same : record { servers = machine.value.0; workers = machine.value.1; colours = machine.value.2; cache = machine.value.3; quantum = pace.value.0; turns = pace.value.1; balance = pace.value.2; choice = choice.value; trace = trace.value == 1 } ≡ o = cc in
    subst AreWithin same (record {
      servers = m.servers;
      workers = m.workers;
      colours = m.colours;
      cache = m.cache;
      quantum = p.quantum;
      turns = p.turns;
      balance = p.balance;
      choice = number_within (values (codes "choice")) 0 18446744073709551615 0 choice.value (record { least = omega arith; most = omega arith }) choice.is;
    })

options_by : (c : Command) (values : Values) (a : Asked) → asked_with c values ≡ Some a → AreWithin a.options
unfolding asked_with
options_by c values a h =
    let options = goes (options_of values) _ a h in
    let number = goes (number_or (values (codes "number")) 0 18446744073709551615 0) _ a options.next in
    let size = goes (number_or (values (codes "size")) 1 4000 1) _ a number.next in
    let same : options.value ≡ a.options = cc in
    subst AreWithin same (options_within values options.value options.is)

options_given : (c : Command) (given : Option Given) (a : Asked) → with_given c given ≡ Some a → AreWithin a.options
options_given c None a h = absurd cc
options_given c (Some given) a h = options_by c (λ name. value_of name given) a h

options_for : (c : Option Command) (rest : List Text) (a : Asked) → by_command c rest ≡ Some a → AreWithin a.options
options_for None rest a h = absurd cc
options_for (Some c) rest a h = options_given c (read (names_of c) None rest []) a h

asked_within : (words : List Text) (a : Asked) → asked words ≡ Some a → AreWithin a.options
asked_within [] a h = absurd cc
asked_within (word ∷ rest) a h = options_for (command_of word) rest a h

between_none : (low high n : ℕ) → IsWithin low high n → between low high n ≡ 0
between_none low high n w = ap₂ (λ a b. other (a && b)) (le-leb low n w.least) (le-leb n high w.most)

-- options that were asked for are in their ranges
pub asked_options : (words : List Text) (a : Asked) → asked words ≡ Some a → options_out a.options ≡ 0
asked_options words a h =
    let w = asked_within words a h in
    let o = a.options in
    omega (
      arith,
      between_none 1 64 o.servers w.servers,
      between_none 1 64 o.workers w.workers,
      between_none 1 65536 o.colours w.colours,
      between_none 0 65536 o.cache w.cache,
      between_none 1 1024 o.quantum w.quantum,
      between_none 1 1000000000 o.turns w.turns,
      between_none 0 1000000 o.balance w.balance,
      between_none 0 (2 ^ 64 - 1) o.choice w.choice,
    )
