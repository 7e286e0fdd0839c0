mod OutsideWords
