-- One picture and panels, worked out.
use Rattle.std.proofs.Common.{refl}
use Rattle.std.specs.Fmt as fmt
use Rattle.job_view.specs.Picture.{file, plain}
use Rattle.job_view.specs.WorkedPictures.{PicturesAreWorkedOut}
use Rattle.job_view.specs.WorkedPanels.{PanelsAreWorkedOut}

pub pictures_are_worked_out : PicturesAreWorkedOut
unfolding file plain fmt.digits
pictures_are_worked_out = record { faulted = refl; ended = refl; limited = refl; pairs = refl; alone = refl; shared = refl }

pub panels_are_worked_out : PanelsAreWorkedOut
unfolding fmt.digits
panels_are_worked_out =
    record {
      board = refl;
      over_time = refl;
      boards = refl;
      missing = refl;
      board_height = refl;
      over_time_height = refl;
      boards_height = refl;
      named = refl;
      ampersand = refl;
      bytes = refl;
      none = refl;
      unnamed = refl;
    }
