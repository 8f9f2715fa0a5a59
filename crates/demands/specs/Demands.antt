-- The demands on the finder as one theorem, a field for each statement. The function `met` promises it, so the checker
-- requires a proof of each. The quotations are the words of the demands, or of the request in the heading above; a
-- field's type is defined in the file that the imports below name.
use Rattle.demands.specs.Total.{Total}
use Rattle.demands.specs.Occurring.{NumbersOccur}
use Rattle.demands.specs.Program.{ProgramTotal, ProgramReads, ProgramDecided, ProgramStreams, ProgramExact}
use Rattle.demands.specs.BitForBit.{BitForBit}
use Rattle.demands.specs.AsPublished.{AsPublished}
use Rattle.demands.specs.Cases.{CasesHold}
use Rattle.demands.specs.AnyRing.{OwnRings}
use Rattle.demands.specs.ResponseAccurate.{ResponseAccurate}
use Rattle.demands.specs.ResponsesOrdered.{ResponsesOrdered}
use Rattle.demands.specs.PeaksAlike.{PeaksAlike}
use Rattle.demands.specs.Units.{UnitsNearest}
use Rattle.demands.specs.RingPass.{RingOnePass}
use Rattle.demands.specs.Apart.{ApartIsMerge}
use Rattle.demands.specs.Enough.{EnoughIsCounting, LooksNoFurther}
use Rattle.demands.specs.Strike.{RaisedByStrikesOnly, LaterMoveUp, ShownIsStruck}
use Rattle.demands.specs.Writing.{ReadBack, WrittenBack}
use Rattle.demands.specs.MergeNaive.{MergesAlike, RefusesAlike, OffReturnsList, CaseToldApart}
use Rattle.demands.specs.Retention.{HeldWhen, RetainedTotal, RetainedReads}
use Rattle.demands.specs.Retouch.{OnlyTouched, AtMost21, Fresh, MovesLittle}
use Rattle.demands.specs.Limits.{LimitsContain, LimitsExact, SurePeakExact}
use Rattle.demands.specs.FrameExact.{FrameExact, AlikeByName, MapsSearched, MapsAlike, FrameWithoutTies}
use Rattle.demands.specs.FrameExact.{FourNever, PeaksKept}
use Rattle.demands.specs.OnePrice.{ExactFrame, OnePrice, NothingTipped}
use Rattle.demands.specs.Ties.{NanTop, PeakTies, FrameTies, MapsAlikeWithoutEquals}
use Rattle.demands.specs.Neighbours.{NeighboursKept, CountsExact}
use Rattle.demands.specs.Tolerance.{CentreTolerance, FrameTolerance}
use Rattle.demands.specs.Photographs.{PhotographIsFrame, PlainHeaderRead, BehindUnread, UploadsRead}
use Rattle.demands.specs.WrongValues.{WrongValues}
use Rattle.demands.specs.WrongRefusals.{WrongRefusals}
use Rattle.demands.specs.WrongStatements.{WrongStatements}

pub record Demands : Type 0 where
  -- ---- 1. Total
  -- "comes back as a finished corner list or as one of eleven numbered refusals": the numbers that each function can
  -- give
  pub total : Total
  -- and each of them is given: a call for each function and number
  pub numbers_occur : NumbersOccur
  -- a frame never gives number 4
  pub four_never : FourNever
  -- and its number 10 counts peaks: the centroid drops none of them
  pub peaks_kept : PeaksKept
  -- the same for what the program prints, whatever it reads
  pub program_total : ProgramTotal
  -- and only its first 9,527 bytes can matter
  pub program_reads : ProgramReads
  -- and it reads exactly the bytes that decide what it prints
  pub program_decided : ProgramDecided
  -- a stream has one meaning: written and then read, it gives the same values; read and then written, the same stream
  pub program_streams : ProgramStreams
  -- ---- 2. Bit for bit
  -- "Response maps, peaks, centroids, pyramid levels, search boxes and merged corners": what each call leaves, by the
  -- definitions
  pub bit_for_bit : BitForBit
  -- "those of the scalar Rust": the definitions give what its text gives, function by function
  pub as_published : AsPublished
  -- and what the definitions give in the worked cases
  pub cases_hold : CasesHold
  -- "Facts common to both rings are shown for any ring table of sixteen different places ..": the program's two are
  -- such tables
  pub own_rings : OwnRings
  -- ---- 3. Exact choice
  -- "every computed response is within 1/1024 of the paper's exact value and has its sign, 0 for 0"
  pub response_accurate : ResponseAccurate
  -- "any two responses with different exact values stand in the same order as those values"
  pub responses_ordered : ResponsesOrdered
  -- "the program's peak list of the response map and the list chosen by exact values are alike .. exactly when no peak
  -- .. has .. an equal"
  pub peaks_alike : PeaksAlike
  -- "with the two lists alike for each map it looks at, its whole corner list is the one that exact peak choice leads
  -- to"
  pub frame_exact : FrameExact
  -- and the program prints that list
  pub program_exact : ProgramExact
  -- alike is "naming the same places in the same order"
  pub alike_by_name : AlikeByName
  -- and on "each map it looks at" only a buffer that is too short can refuse that search
  pub maps_searched : MapsSearched
  -- at a whole threshold the lists of each of these maps are alike exactly when the map has no such tie
  pub maps_alike : MapsAlike
  -- and so a frame without ties has the exact list
  pub frame_without_ties : FrameWithoutTies
  -- ---- The exact choice as a program: "A corner tipped over by rounding puts two prices on one photograph."
  -- a frame by exact values has the exact list, whatever its ties and its threshold
  pub exact_frame : ExactFrame
  -- so a comparison with it shows whether a computed list is the exact one, and whether its count is
  pub one_price : OnePrice
  -- and if demand 3's tie does not occur, the two are equal
  pub nothing_tipped : NothingTipped
  -- ---- Request 1: PGM photographs
  -- "The frame is the image's pixels as a part of the uploaded bytes": demands 2 and 3 hold for it
  pub photograph_is_frame : PhotographIsFrame
  -- "Read the P5 form": a plainly written header is read back, for every size
  pub plain_header_read : PlainHeaderRead
  -- "Bytes after the pixels are not read."
  pub behind_unread : BehindUnread
  -- "width, height, maxval, whitespace and comments", and each number, in a table of uploads
  pub uploads_read : UploadsRead
  -- ---- Request 2: nearest 256th
  -- "The two 256th columns become nearest, half away from zero"
  pub units_nearest : UnitsNearest
  -- ---- Request 3: ring sums in one pass
  -- "after each pair the DR and sum held are those of the pairs passed; at the end all three are the paper's"
  pub ring_one_pass : RingOnePass
  -- ---- Request 4: how many ties
  -- "A NaN centre is top with 0 ties"
  pub nan_top : NanTop
  -- "Peak finding returns its sum over the peaks it adds"
  pub peak_ties : PeakTies
  -- "a finished frame pass returns the total", which is "defined from the computed maps"
  pub frame_ties : FrameTies
  -- "both peak lists are alike for each map a finished frame looks at if no peak of the exact lists has an exact equal
  -- in its window"
  pub maps_alike_without_equals : MapsAlikeWithoutEquals
  -- ---- Request 5: neighbours kept with the corner
  -- "The corner record keeps the positive-neighbour count that admitted it": each merged corner of a frame has the
  -- count of a peak with its strength
  pub neighbours_kept : NeighboursKept
  -- "the count is matched to its definition": by exact values it is the same
  pub counts_exact : CountsExact
  -- ---- Request 6: look before merging
  -- "List and count equal those the original's own merge would leave, refusal and all"
  pub apart_is_merge : ApartIsMerge
  -- ---- Request 7: enough corners?
  -- "The answer is the one full counting gives"
  pub enough_is_counting : EnoughIsCounting
  -- "ending when N is reached"
  pub looks_no_further : LooksNoFurther
  -- ---- Request 8: retouched pixels
  -- "any other map gets those cells and no more"
  pub only_touched : OnlyTouched
  -- "at most 21"
  pub at_most_21 : AtMost21
  -- "map and image equal a fresh run"
  pub fresh_again : Fresh
  -- "moves the exact response by at most 15d fifths through a ring place and 16d through the cross, and no other cell
  -- at all"
  pub moves_little : MovesLittle
  -- ---- Request 9: pixels known between limits
  -- "Every image lying between the two has its exact response inside"
  pub limits_contain : LimitsContain
  -- "Where low equals high everywhere, both numbers are that response"
  pub limits_exact : LimitsExact
  -- "With maps so made for the ring given it is then a peak by exact values of every such image"
  pub sure_peak_exact : SurePeakExact
  -- ---- Request 10: strike a corner in two steps
  -- "The list has a change number from 0, raised by each strike and by nothing else."
  pub raised_by_strikes_only : RaisedByStrikesOnly
  -- "it removes the corner at that place, later ones moving up and the freed last place becoming zero."
  pub later_move_up : LaterMoveUp
  -- "a confirming not refused removes the very corner shown for that place and number"
  pub shown_is_struck : ShownIsStruck
  -- ---- Request 11: write the frame stream
  -- "The reader returns the same values, float bits included"
  pub read_back : ReadBack
  -- "an accepted stream, read and rewritten, is the same up to its kind 4 byte"
  pub written_back : WrittenBack
  -- ---- Request 12: merge without cells
  -- "equal to the one in use whenever all coordinates are multiples of 1/64 and the radius is a power of two from 1/64
  -- to 4,096"
  pub naive_alike : MergesAlike
  -- "It gives the old merge's refusals in their order"
  pub naive_refuses_alike : RefusesAlike
  -- "and an off radius returns the list"
  pub naive_off : OffReturnsList
  -- "Outside that the case .. two corners by one and three by the other"
  pub naive_case : CaseToldApart
  -- ---- Request 13: what may be deleted
  -- "whether we hold it": for each kind the interval in which an item is held
  pub held_when : HeldWhen
  -- "Print the letter N, H or G .., a line each": what `retained` prints, whatever it reads
  pub retained_total : RetainedTotal
  -- "at most 65,536 records are read and what follows is not"
  pub retained_reads : RetainedReads
  -- ---- Request 14. How far the centre may be off
  -- "each coordinate lies within 1/32 pixel of the exact centroid"
  pub centre_tolerance : CentreTolerance
  -- "It covers seeds and patch corners alike"
  pub frame_tolerance : FrameTolerance
  -- ---- Wrong roads: what the words of the demands and the requests could be mistaken for
  -- definitions with another value, on the smallest input that shows it
  pub wrong-values : WrongValues
  -- tables of conditions with another number
  pub wrong-refusals : WrongRefusals
  -- statements that an example disproves
  pub wrong_statements : WrongStatements
