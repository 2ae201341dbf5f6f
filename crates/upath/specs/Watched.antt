-- What a watched reader or writer shows.
use Rattle.std.specs.Prelude.{Bool}
use Rattle.upath.specs.declared.watched.Watched.{Watched}

module _ {T : Type 0} where
  -- the watched reader or writer
  abbrev pub stream_of : Watched T → T
  stream_of watched = watched.stream

  -- whether one of the stream's calls failed
  abbrev pub is_marked : Watched T → Bool
  is_marked watched = watched.failed
