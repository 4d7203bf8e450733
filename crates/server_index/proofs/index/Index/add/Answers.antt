use Rattle.std.proofs.Common.{◌<◌, length, ◌∙◌, arith}
use Rattle.server_index.specs.Lists.{lists}
use Rattle.server_index.specs.Indexes.{place_in}
use Rattle.server_index.proofs.RowLemmas.{longer}
use Rattle.server_index.proofs.IndexLemmas.{short_here, slot_noted}
use Rattle.server_index.proofs.index.Index.add.Goals as goal

pub note-requires-clause-short : goal.note-requires-clause-short
note-requires-clause-short c =
    let rows = c.make_rows.new.rows.items in
    let more = longer place_in (lists c.self.inside.rows.items) (lists rows) c.self.invariant c.in_ok-make_rows.ensures.longer in
    let inside : c.split-row.result.0 < length rows = omega (arith, c.in_ok-make_rows.ensures.enough) in
    short_here rows c.split-row.result.0 c.index_mut.result.now more.short inside c.index_mut.ensures.value

pub invariant_of-self-2 : goal.invariant_of-self-2
invariant_of-self-2 c =
    let rows = c.make_rows.new.rows.items in
    let more = longer place_in (lists c.self.inside.rows.items) (lists rows) c.self.invariant c.in_ok-make_rows.ensures.longer in
    let inside : c.split-row.result.0 < length rows = omega (arith, c.in_ok-make_rows.ensures.enough) in
    let seen = more.same ∙ c.self.view_is in
    (slot_noted rows c.split-row.result.0 c.split-row.result.1 c.args.key c.args.slot c.index_mut.result.now c.note.new.row c.note.result more.short seen c.split-row.ensures.column c.split-row.ensures.key inside c.index_mut.ensures.value c.note.ensures.short c.note.ensures.place c.note.ensures.refused).short

pub returns-clause-place : goal.returns-clause-place
returns-clause-place c =
    let rows = c.make_rows.new.rows.items in
    let more = longer place_in (lists c.self.inside.rows.items) (lists rows) c.self.invariant c.in_ok-make_rows.ensures.longer in
    let inside : c.split-row.result.0 < length rows = omega (arith, c.in_ok-make_rows.ensures.enough) in
    let seen = more.same ∙ c.self.view_is in
    (slot_noted rows c.split-row.result.0 c.split-row.result.1 c.args.key c.args.slot c.index_mut.result.now c.note.new.row c.note.result more.short seen c.split-row.ensures.column c.split-row.ensures.key inside c.index_mut.ensures.value c.note.ensures.short c.note.ensures.place c.note.ensures.refused).place

pub returns-clause-refused : goal.returns-clause-refused
returns-clause-refused c =
    let rows = c.make_rows.new.rows.items in
    let more = longer place_in (lists c.self.inside.rows.items) (lists rows) c.self.invariant c.in_ok-make_rows.ensures.longer in
    let inside : c.split-row.result.0 < length rows = omega (arith, c.in_ok-make_rows.ensures.enough) in
    let seen = more.same ∙ c.self.view_is in
    (slot_noted rows c.split-row.result.0 c.split-row.result.1 c.args.key c.args.slot c.index_mut.result.now c.note.new.row c.note.result more.short seen c.split-row.ensures.column c.split-row.ensures.key inside c.index_mut.ensures.value c.note.ensures.short c.note.ensures.place c.note.ensures.refused).refused
