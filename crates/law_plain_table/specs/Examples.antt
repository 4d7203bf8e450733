-- Codes of programs with threads, a lock and pairs of threads have tables.
use Rattle.fr_typing.specs.Kinds.{unit, own}
use Rattle.fr_code.specs.Examples.{started_code, counted_code, shared_code}
use Rattle.law_plain_table.specs.Layout.{IsLaidOut}
use Rattle.law_plain_table.specs.Tables.{HasTable}

pub record ExamplesHaveTables : Type 0 where
  -- a moved capture and a join; a lock in main and in a thread; two pairs of threads with views
  pub started : IsLaidOut started_code × HasTable started_code (own unit)
  pub counted : IsLaidOut counted_code × HasTable counted_code (own unit)
  pub shared : IsLaidOut shared_code × HasTable shared_code (own unit)
