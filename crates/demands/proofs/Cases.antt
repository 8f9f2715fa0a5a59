-- Each case of the table comes out as RULES 14 says, by computation. Assumes nothing.
use mathlib.Core.Path.{refl}
use lib.Ieee.{lt, le, add, sub, mul, div, of_int, to_unsigned, to_bits}
use Rattle.multiscale.specs.Multiscale.{roi_of}
use Rattle.lists.specs.Tab.{tab, grid}
use Rattle.pyramid_levels.specs.Levels.{halvings, level_count}
use Rattle.pyramid.specs.Pyramid.{half_pixel, halved}
use Rattle.ring.specs.Ring.{ring5}
use Rattle.response.specs.Response.{samples, response_of}
use Rattle.response.specs.Exact.{fifths_at}
use Rattle.float32.specs.Value.{total}
use Rattle.merge_radius.specs.MergeRadius.{is_off}
use Rattle.merge_grid.specs.Grid.{grid_of, near, adjacent_cells}
use Rattle.merge.specs.Merge.{result_of}
use Rattle.merge_naive.specs.MergeNaive.{naive_of}
use Rattle.demands.specs.Cases.{cases, CasesHold}

pub cases_hold : CasesHold
unfolding cases fifths_at samples total tab grid ring5 half_pixel halved halvings level_count roi_of mul le of_int
    result_of naive_of response_of is_off grid_of near adjacent_cells lt add sub div to_unsigned to_bits
cases_hold = refl
