-- The twelve marked cases hold, each by the theorem of its stage. Assumes nothing.
use lib.Ieee.{of_bits, of_int}
use Rattle.converter.specs.Cases.{byte_0, byte_255}
use Rattle.root.specs.Cases.{root_of_25, root_of_2}
use Rattle.decimator.specs.Cases.{case_5, case_6, case_7}
use Rattle.dc_remover.specs.Cases.{case_8, case_9}
use Rattle.fm.specs.Cases.{case_10, case_11}
use Rattle.am.specs.Cases.{case_12}
use Rattle.promises.specs.Marked.{All, marked_cases}

pub all_marked_cases : All marked_cases
unfolding of_bits of_int
all_marked_cases = (byte_0, (byte_255, (root_of_25, (root_of_2, (case_5, (case_6, (case_7, (case_8, (case_9, (case_10, (case_11, (case_12, tt))))))))))))
