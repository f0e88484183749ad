-- `file_map::map_of` meets its contract: the rows are laid one behind the other. Assumes nothing.
use mathlib.Core.Path.{◌∙◌}
use Rattle.file_map.proofs.Rows.{Sized, rows_sized, rows_laid}
use Rattle.file_map.specs.MapOf.{map_of}
use Rattle.file_map.proofs.map_of.Goals as goal

pub returns : goal.returns
unfolding map_of
returns c = let s : Sized c.index_of-x.result c.branches_of-b.result c.samplers_of-d.result =
    rw (c.index_of-x.ensures, c.branches_of-b.ensures, c.samplers_of-d.ensures) (rows_sized c.args.s.now c.requires) in
    rows_laid s c.lay_u16.ensures c.lay_u16-2.ensures c.lay_u16-3.ensures c.lay_u16-4.ensures
    c.lay_u16-5.ensures c.lay_u32.ensures c.lay_u32-2.ensures c.lay_u32-3.ensures c.lay_u32-4.ensures
    c.lay_u32-5.ensures
    ∙ rw (c.index_of-x.ensures, c.branches_of-b.ensures, c.samplers_of-d.ensures)
