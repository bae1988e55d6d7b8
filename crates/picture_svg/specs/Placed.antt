-- Where the marks and the arrows of a picture stand (docs/PICTURES.md, "Pictures").
use Rattle.std.specs.Prelude.{ℕ, ◌+◌, List, [], ◌∷◌, Option, None, Some, slice_get, slice_index_or}
use Rattle.run_pictures.specs.declared.layout.Arrow.{Arrow}
use Rattle.run_pictures.specs.declared.layout.Mark.{Mark}
use Rattle.run_pictures.specs.declared.layout.Post.{Post}
use Rattle.picture_svg.specs.declared.shapes.Flight.{Flight}
use Rattle.picture_svg.specs.declared.shapes.Point.{Point}
use Rattle.picture_svg.specs.declared.shapes.Spot.{Spot}

-- in the middle of its column, and as far down as its row
abbrev pub point_of : List ℕ → Mark → Point
point_of middles mark = record { x = slice_index_or middles mark.column 0; y = mark.y }

abbrev pub point_at : List ℕ → Option Mark → Point
point_at middles None = record { x = 0; y = 0 }
point_at middles (Some mark) = point_of middles mark

-- the number of an event, and where it stands
pub record Place : Type 0 where
  pub event : ℕ
  pub at : Point

abbrev pub standing : Spot → Place
standing spot = record { event = spot.event; at = spot.at }

-- the places of events by their marks, where the first has this number
abbrev pub places : List ℕ → ℕ → List Mark → List Place
places middles n [] = []
places middles n (mark ∷ marks) = record { event = n; at = point_of middles mark } ∷ places middles (n + 1) marks

-- two events, and where they stand
pub record Joint : Type 0 where
  pub from : ℕ
  pub to : ℕ
  pub start : Point
  pub end : Point

abbrev pub joining : Flight → Joint
joining flight = record { from = flight.from; to = flight.to; start = flight.start; end = flight.end }

abbrev pub joined : List ℕ → List Mark → Arrow → Joint
joined middles marks arrow =
    record {
      from = arrow.from;
      to = arrow.to;
      start = point_at middles (slice_get marks arrow.from);
      end = point_at middles (slice_get marks arrow.to);
    }

-- where the arrow of a post ends: as far down as it begins, in the middle of its column
abbrev pub beside : List ℕ → ℕ → Point → Point
beside middles column start = record { x = slice_index_or middles column 0; y = start.y }

abbrev pub posted : List ℕ → List Mark → Post → Joint
posted middles marks post =
    record {
      from = post.event;
      to = post.event;
      start = point_at middles (slice_get marks post.event);
      end = beside middles post.column (point_at middles (slice_get marks post.event));
    }
