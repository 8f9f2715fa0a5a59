-- From the laws of `published`. Assumes nothing.
use Rattle.published.proofs.Ring.{ring-as-published}
use Rattle.published.proofs.Response.{response-as-published, patch-as-published}
use Rattle.published.proofs.Whole.{whole-as-published}
use Rattle.published.proofs.Pyramid.{pyramid-as-published}
use Rattle.published.proofs.Window.{window-as-published}
use Rattle.published.proofs.Peaks.{peaks-as-published}
use Rattle.published.proofs.Centroid.{refine-as-published}
use Rattle.published.proofs.Roi.{roi-as-published}
use Rattle.published.proofs.Cells.{cells-as-published}
use Rattle.published.proofs.Merge.{merge-as-published}
use Rattle.published.proofs.Naive.{naive-as-published}
use Rattle.demands.specs.AsPublished.{AsPublished}

pub as_published : AsPublished
as_published = record {
  ring = ring-as-published;
  response = response-as-published;
  patch = patch-as-published;
  whole = whole-as-published;
  pyramid = pyramid-as-published;
  window = window-as-published;
  peaks = peaks-as-published;
  centroid = refine-as-published;
  roi = roi-as-published;
  cells = cells-as-published;
  merge = merge-as-published;
  naive = naive-as-published;
}
